use Rattle.spur_object.proofs.FaultFacts.{fault_small, object_small}
use Rattle.spur_object.proofs.laws.objects_are_small.Goals as goal

pub returns-clause-objects : goal.returns-clause-objects
returns-clause-objects c = object_small

pub returns-clause-places : goal.returns-clause-places
returns-clause-places c = fault_small
