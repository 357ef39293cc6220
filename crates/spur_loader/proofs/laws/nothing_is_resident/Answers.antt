use Rattle.spur_loader.proofs.ValidFacts.{flat_absent}
use Rattle.spur_loader.proofs.laws.nothing_is_resident.Goals as goal

pub returns : goal.returns
returns c = flat_absent
