use Rattle.spur_cpu.proofs.Instructions.{budget-stays-left}
use Rattle.spur_cpu.proofs.ToAccess.{empty-fits, fit-by-the-next, to-access-leads-on, wants-no-local}
use Rattle.spur_cpu.proofs.laws.carried_to_access.Goals as goal

pub returns-clause-no_local : goal.returns-clause-no_local
returns-clause-no_local g c = wants-no-local g.C.Cpu.meaning

pub returns-clause-leads : goal.returns-clause-leads
returns-clause-leads g c = to-access-leads-on g.C.Cpu.meaning

pub returns-clause-next : goal.returns-clause-next
returns-clause-next g c = fit-by-the-next g.C.Cpu.meaning

pub returns-clause-empty : goal.returns-clause-empty
returns-clause-empty g c = empty-fits g.C.Cpu.meaning

pub returns-clause-budget : goal.returns-clause-budget
returns-clause-budget g c = budget-stays-left g.C.Cpu.meaning
