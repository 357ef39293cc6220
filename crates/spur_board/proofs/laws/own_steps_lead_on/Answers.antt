use Rattle.spur_board.proofs.CarryFacts.{event-is-an-instruction}
use Rattle.spur_board.proofs.StepFacts.{step-leads-on}
use Rattle.spur_board.proofs.laws.own_steps_lead_on.Goals as goal

pub returns-clause-instruction : goal.returns-clause-instruction
returns-clause-instruction g c = event-is-an-instruction g.C.Cpu.meaning g.C.Cpu.state g.C.Cpu.room

pub returns-clause-leads : goal.returns-clause-leads
returns-clause-leads g c = step-leads-on g.C.Cpu.meaning g.C.Cpu.state g.C.Cpu.room
