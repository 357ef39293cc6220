use Rattle.spur_flat.proofs.HistoryFacts.{legal-stays-valid, stays-valid}
use Rattle.spur_flat.proofs.laws.stays_valid.Goals as goal

pub returns-clause-entry : goal.returns-clause-entry
returns-clause-entry c = stays-valid

pub returns-clause-history : goal.returns-clause-history
returns-clause-history c = legal-stays-valid
