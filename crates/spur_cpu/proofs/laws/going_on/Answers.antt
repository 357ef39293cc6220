use Rattle.spur_cpu.proofs.Going.{going-on}
use Rattle.spur_cpu.proofs.laws.going_on.Goals as goal

pub returns : goal.returns
returns g c = going-on _ g.met.C.Cpu.lawful
