use Rattle.spur_asm.proofs.FaultTheorems.{has_one_fault}
use Rattle.spur_asm.proofs.laws.has_one_fault.Goals as goal

pub returns : goal.returns
returns c = has_one_fault
