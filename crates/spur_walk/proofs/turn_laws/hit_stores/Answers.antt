use Rattle.spur_walk.proofs.StoreFacts.{hit-stores}
use Rattle.spur_walk.proofs.turn_laws.hit_stores.Goals as goal

pub returns : goal.returns
returns c = hit-stores
