use Rattle.spur_cpu.proofs.Afters.{after_append}
use Rattle.spur_cpu.proofs.laws.pieces.Goals as goal

pub returns : goal.returns
returns g c segs budget from d es fs n k h = after_append g.C.Cpu.meaning segs budget from d es fs n k h
