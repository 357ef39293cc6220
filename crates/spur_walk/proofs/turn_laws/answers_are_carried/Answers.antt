use Rattle.spur_walk.proofs.AnsweredFacts.{access-carried, align-stands, stores-leave}
use Rattle.spur_walk.proofs.turn_laws.answers_are_carried.Goals as goal

pub returns-clause-carried : goal.returns-clause-carried
returns-clause-carried c = access-carried

pub returns-clause-stores : goal.returns-clause-stores
returns-clause-stores c = stores-leave

pub returns-clause-align : goal.returns-clause-align
returns-clause-align c = align-stands
