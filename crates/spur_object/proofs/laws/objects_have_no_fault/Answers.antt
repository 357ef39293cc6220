use Rattle.spur_object.proofs.FaultFacts.{object_has_no_fault}
use Rattle.spur_object.proofs.laws.objects_have_no_fault.Goals as goal

pub returns : goal.returns
returns c = object_has_no_fault
