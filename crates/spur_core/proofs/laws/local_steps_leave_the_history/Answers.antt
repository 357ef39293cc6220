use Rattle.spur_core.proofs.StepFacts.{local-steps-leave-the-history}
use Rattle.spur_core.proofs.laws.local_steps_leave_the_history.Goals as goal

pub returns : goal.returns
returns g c = local-steps-leave-the-history g.C.Cpu.meaning g.C.Cpu.state
