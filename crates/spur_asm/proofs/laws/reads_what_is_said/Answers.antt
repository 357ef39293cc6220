use Rattle.spur_asm.proofs.Theorems.{reads_what_is_said}
use Rattle.spur_asm.proofs.laws.reads_what_is_said.Goals as goal

pub returns : goal.returns
returns c = reads_what_is_said
