use Rattle.spur_plain.proofs.HistoryFacts.{done-is-plain, faults-leave-memory}
use Rattle.spur_plain.proofs.faults_leave_memory.Goals as goal

pub returns-clause-leave : goal.returns-clause-leave
returns-clause-leave c = faults-leave-memory

pub returns-clause-done : goal.returns-clause-done
returns-clause-done c = done-is-plain
