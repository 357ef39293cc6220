use Rattle.spur_walk.proofs.AnswerFacts.{fault-still, ready-still}
use Rattle.spur_walk.proofs.laws.ready_and_fault_are_still.Goals as goal

pub returns-clause-ready : goal.returns-clause-ready
returns-clause-ready c = ready-still

pub returns-clause-fault : goal.returns-clause-fault
returns-clause-fault c = fault-still
