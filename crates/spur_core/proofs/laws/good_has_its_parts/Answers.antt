use Rattle.spur_core.proofs.PartFacts.{good-has-its-parts}
use Rattle.spur_core.proofs.laws.good_has_its_parts.Goals as goal

pub returns : goal.returns
returns g c = good-has-its-parts g.C.Cpu.meaning g.C.Cpu.state g.C.Cpu.room g.B.Backing.meaning
