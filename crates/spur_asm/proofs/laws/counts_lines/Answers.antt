use Rattle.spur_asm.proofs.FaultTheorems.{counts_lines}
use Rattle.spur_asm.proofs.laws.counts_lines.Goals as goal

pub returns : goal.returns
returns c = counts_lines
