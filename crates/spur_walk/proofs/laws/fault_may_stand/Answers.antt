use Rattle.spur_walk.proofs.AnswerFacts.{fault-stands}
use Rattle.spur_walk.proofs.laws.fault_may_stand.Goals as goal

pub returns : goal.returns
returns c = fault-stands
