use Rattle.spur_bus.proofs.EmptyFacts.{agrees-empty, serves-empty}
use Rattle.spur_bus.proofs.laws.empty_caches_agree.Goals as goal

pub returns-clause-agree : goal.returns-clause-agree
returns-clause-agree c = agrees-empty

pub returns-clause-serves : goal.returns-clause-serves
returns-clause-serves c = serves-empty
