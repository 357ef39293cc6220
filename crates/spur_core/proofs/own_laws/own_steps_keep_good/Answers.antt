use Rattle.spur_core.proofs.OwnEventFacts.{event-keeps-good, own-step-keeps-good}
use Rattle.spur_core.proofs.SoundFacts.{good-boards-are-sound, good-rests}
use Rattle.spur_core.proofs.own_laws.own_steps_keep_good.Goals as goal

pub returns-clause-event : goal.returns-clause-event
returns-clause-event g c = event-keeps-good g.C.Cpu.meaning g.C.Cpu.state g.C.Cpu.room g.B.Backing.meaning

pub returns-clause-step : goal.returns-clause-step
returns-clause-step g c = own-step-keeps-good g.C.Cpu.meaning g.C.Cpu.state g.C.Cpu.room g.B.Backing.meaning

pub returns-clause-sound : goal.returns-clause-sound
returns-clause-sound g c = good-boards-are-sound g.C.Cpu.meaning g.C.Cpu.state g.C.Cpu.room g.B.Backing.meaning

pub returns-clause-rests : goal.returns-clause-rests
returns-clause-rests g c = good-rests g.C.Cpu.meaning g.C.Cpu.state g.C.Cpu.room g.B.Backing.meaning
