use Rattle.spur_object.proofs.FaultFacts.{fault_once}
use Rattle.spur_object.proofs.laws.one_fault.Goals as goal

pub returns : goal.returns
returns c = fault_once
