use Rattle.spur_walk.proofs.BoundFacts.{page-few}
use Rattle.spur_walk.proofs.FallFacts.{page-fall}
use Rattle.spur_walk.proofs.laws.page_steps_are_few.Goals as goal

pub returns-clause-few : goal.returns-clause-few
returns-clause-few c = page-few

pub returns-clause-fall : goal.returns-clause-fall
returns-clause-fall c = page-fall
