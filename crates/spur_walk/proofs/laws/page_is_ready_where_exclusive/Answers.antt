use Rattle.spur_walk.proofs.AnswerFacts.{page-no-fault, page-ready}
use Rattle.spur_walk.proofs.laws.page_is_ready_where_exclusive.Goals as goal

pub returns-clause-ready : goal.returns-clause-ready
returns-clause-ready c = page-ready

pub returns-clause-no_fault : goal.returns-clause-no_fault
returns-clause-no_fault c = page-no-fault
