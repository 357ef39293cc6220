use Rattle.spur_cpu.proofs.Led.{led_entry, led_local}
use Rattle.spur_cpu.proofs.laws.leads_on.Goals as goal

pub returns-clause-local : goal.returns-clause-local
returns-clause-local g c segs budget from d f es h step = led_local g.C.Cpu.meaning segs budget from d f es h step

pub returns-clause-entry : goal.returns-clause-entry
returns-clause-entry g c segs budget from d f es e h step = led_entry g.C.Cpu.meaning segs budget from d f es e h step
