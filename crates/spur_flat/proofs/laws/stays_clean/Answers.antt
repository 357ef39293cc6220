use Rattle.spur_flat.proofs.CleanFacts.{legal-stays-clean, none-valid-is-clean, stays-clean}
use Rattle.spur_flat.proofs.laws.stays_clean.Goals as goal

pub returns-clause-entry : goal.returns-clause-entry
returns-clause-entry c = stays-clean

pub returns-clause-history : goal.returns-clause-history
returns-clause-history c = legal-stays-clean

pub returns-clause-none_valid : goal.returns-clause-none_valid
returns-clause-none_valid c = none-valid-is-clean
