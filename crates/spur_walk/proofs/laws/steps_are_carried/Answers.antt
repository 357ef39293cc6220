use Rattle.spur_walk.proofs.CarryFacts.{step-carried, step-carried-untold}
use Rattle.spur_walk.proofs.laws.steps_are_carried.Goals as goal

pub returns-clause-told : goal.returns-clause-told
returns-clause-told c = step-carried

pub returns-clause-untold : goal.returns-clause-untold
returns-clause-untold c = step-carried-untold
