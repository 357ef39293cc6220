use Rattle.spur_walk.proofs.ServeFacts.{own-hits}
use Rattle.spur_walk.proofs.laws.own_block_hits.Goals as goal

pub returns : goal.returns
returns c = own-hits
