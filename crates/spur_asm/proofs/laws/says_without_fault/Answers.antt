use Rattle.spur_asm.proofs.FaultTheorems.{says_without_fault}
use Rattle.spur_asm.proofs.laws.says_without_fault.Goals as goal

pub returns : goal.returns
returns c = says_without_fault
