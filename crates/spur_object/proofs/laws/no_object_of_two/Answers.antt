use Rattle.spur_object.proofs.UnitFacts.{unit_once}
use Rattle.spur_object.proofs.laws.no_object_of_two.Goals as goal

pub returns : goal.returns
returns c = unit_once
