use Rattle.spur_asm.proofs.Theorems.{says_once}
use Rattle.spur_asm.proofs.laws.says_once.Goals as goal

pub returns : goal.returns
returns c = says_once
