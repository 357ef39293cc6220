use Rattle.spur_cpu.proofs.Going.{ended-uses-nothing}
use Rattle.spur_cpu.proofs.laws.ended_uses_nothing.Goals as goal

pub returns : goal.returns
returns g c = ended-uses-nothing _
