use Rattle.spur_asm.proofs.FaultTheorems.{tells_the_first_fault}
use Rattle.spur_asm.proofs.laws.tells_the_first_fault.Goals as goal

pub returns : goal.returns
returns c = tells_the_first_fault
