use Rattle.spur_object.proofs.FaultFacts.{fault_place}
use Rattle.spur_object.proofs.laws.places_are_judged.Goals as goal

pub returns : goal.returns
returns c = fault_place
