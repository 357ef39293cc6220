use Rattle.spur_walk.proofs.AnswerFacts.{ready-hit}
use Rattle.spur_walk.proofs.laws.ready_is_hit.Goals as goal

pub returns : goal.returns
returns c = ready-hit
