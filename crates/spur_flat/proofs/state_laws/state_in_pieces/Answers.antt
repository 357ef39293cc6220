use Rattle.spur_flat.proofs.PieceFacts.{follow-append, legal-but-values-append, needed-append, state_after-append, tagged-append}
use Rattle.spur_flat.proofs.state_laws.state_in_pieces.Goals as goal

pub returns-clause-follows : goal.returns-clause-follows
returns-clause-follows c = follow-append

pub returns-clause-state : goal.returns-clause-state
returns-clause-state c = state_after-append

pub returns-clause-tagged : goal.returns-clause-tagged
returns-clause-tagged c = tagged-append

pub returns-clause-needed : goal.returns-clause-needed
returns-clause-needed c = needed-append

pub returns-clause-legal_but_values : goal.returns-clause-legal_but_values
returns-clause-legal_but_values c = legal-but-values-append
