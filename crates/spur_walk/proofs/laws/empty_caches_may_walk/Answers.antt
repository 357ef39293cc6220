use Rattle.spur_walk.proofs.BeginFacts.{empty-walks}
use Rattle.spur_walk.proofs.laws.empty_caches_may_walk.Goals as goal

pub returns : goal.returns
returns c = empty-walks
