use Rattle.spur_core.proofs.InstructionFacts.{events-take-instructions, steps-take-instructions}
use Rattle.spur_core.proofs.OwnStepFacts.{event-logs-one-answer, event_stepped}
use Rattle.spur_core.proofs.own_laws.own_events_are_steps.Goals as goal

pub returns-clause-one : goal.returns-clause-one
returns-clause-one g c = event-logs-one-answer g.C.Cpu.meaning g.C.Cpu.state g.C.Cpu.room

pub returns-clause-stepped : goal.returns-clause-stepped
returns-clause-stepped g c = event_stepped g.C.Cpu.meaning g.C.Cpu.state g.C.Cpu.room

pub returns-clause-instruction : goal.returns-clause-instruction
returns-clause-instruction g c = events-take-instructions g.C.Cpu.meaning g.C.Cpu.state g.C.Cpu.room

pub returns-clause-steps : goal.returns-clause-steps
returns-clause-steps g c = steps-take-instructions g.C.Cpu.meaning g.C.Cpu.state
