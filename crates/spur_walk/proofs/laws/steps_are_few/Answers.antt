use Rattle.spur_walk.proofs.BoundFacts.{steps-few}
use Rattle.spur_walk.proofs.FallFacts.{steps-fall}
use Rattle.spur_walk.proofs.laws.steps_are_few.Goals as goal

pub returns-clause-few : goal.returns-clause-few
returns-clause-few c = steps-few

pub returns-clause-fall : goal.returns-clause-fall
returns-clause-fall c = steps-fall
