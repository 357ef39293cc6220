use Rattle.spur_loader.proofs.ValidFacts.{flat_valid}
use Rattle.spur_loader.proofs.laws.opening_is_valid.Goals as goal

pub returns : goal.returns
returns c = flat_valid
