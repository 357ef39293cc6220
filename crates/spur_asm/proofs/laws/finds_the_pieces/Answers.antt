use Rattle.spur_asm.proofs.FaultTheorems.{finds_the_pieces}
use Rattle.spur_asm.proofs.laws.finds_the_pieces.Goals as goal

pub returns : goal.returns
returns c = finds_the_pieces
