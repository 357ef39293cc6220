use Rattle.spur_bus.proofs.StandFacts.{bus-carried, bus-steps, bus-untold}
use Rattle.spur_bus.proofs.laws.steps_are_carried.Goals as goal

pub returns-clause-steps : goal.returns-clause-steps
returns-clause-steps c = bus-steps

pub returns-clause-carried : goal.returns-clause-carried
returns-clause-carried c = bus-carried

pub returns-clause-untold : goal.returns-clause-untold
returns-clause-untold c = bus-untold
