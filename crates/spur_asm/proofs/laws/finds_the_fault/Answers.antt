use Rattle.spur_asm.proofs.FaultTheorems.{finds_the_fault}
use Rattle.spur_asm.proofs.laws.finds_the_fault.Goals as goal

pub returns : goal.returns
returns c = finds_the_fault
