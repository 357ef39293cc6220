use Rattle.spur_board.proofs.StepFacts.{event-keeps-sound, events-count, fault-is-within, standing-is-a-step, steps-chain, steps-keep}
use Rattle.spur_board.proofs.TurnFacts.{cause-is-one}
use Rattle.spur_board.proofs.laws.own_steps_chain.Goals as goal

pub returns-clause-standing : goal.returns-clause-standing
returns-clause-standing g c = standing-is-a-step g.C.Cpu.meaning g.C.Cpu.state g.C.Cpu.room

pub returns-clause-sound : goal.returns-clause-sound
returns-clause-sound g c = event-keeps-sound g.C.Cpu.meaning g.C.Cpu.state g.C.Cpu.room

pub returns-clause-chain : goal.returns-clause-chain
returns-clause-chain g c = steps-chain g.C.Cpu.meaning g.C.Cpu.state g.C.Cpu.room

pub returns-clause-keep : goal.returns-clause-keep
returns-clause-keep g c = steps-keep g.C.Cpu.meaning g.C.Cpu.state g.C.Cpu.room

pub returns-clause-cause : goal.returns-clause-cause
returns-clause-cause g c = cause-is-one g.C.Cpu.meaning g.C.Cpu.state g.C.Cpu.room

pub returns-clause-count : goal.returns-clause-count
returns-clause-count g c = events-count g.C.Cpu.meaning g.C.Cpu.state g.C.Cpu.room

pub returns-clause-fault : goal.returns-clause-fault
returns-clause-fault g c = fault-is-within g.C.Cpu.meaning g.C.Cpu.state g.C.Cpu.room
