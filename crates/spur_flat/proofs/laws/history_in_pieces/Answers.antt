use Rattle.spur_flat.proofs.HistoryFacts.{flat_after-append, legal-append, own_entries-append}
use Rattle.spur_flat.proofs.laws.history_in_pieces.Goals as goal

pub returns-clause-after : goal.returns-clause-after
returns-clause-after c = flat_after-append

pub returns-clause-legal : goal.returns-clause-legal
returns-clause-legal c = legal-append

pub returns-clause-own : goal.returns-clause-own
returns-clause-own c = own_entries-append
