use Rattle.spur_asm.proofs.TextsLaw.{says_a_unit}
use Rattle.spur_asm.proofs.laws.says_a_unit.Goals as goal

pub returns : goal.returns
returns c = says_a_unit
