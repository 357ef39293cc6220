use Rattle.spur_walk.proofs.AnswerFacts.{ready-stands, ready-word}
use Rattle.spur_walk.proofs.laws.ready_may_stand.Goals as goal

pub returns-clause-stands : goal.returns-clause-stands
returns-clause-stands c = ready-stands

pub returns-clause-word : goal.returns-clause-word
returns-clause-word c = ready-word
