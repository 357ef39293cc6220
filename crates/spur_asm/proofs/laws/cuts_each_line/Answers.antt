use Rattle.spur_asm.proofs.FaultTheorems.{cuts_each_line}
use Rattle.spur_asm.proofs.laws.cuts_each_line.Goals as goal

pub returns : goal.returns
returns c = cuts_each_line
