use Rattle.spur_walk.proofs.ModestFacts.{moved-modest}
use Rattle.spur_walk.proofs.turn_laws.moved_is_modest.Goals as goal

pub returns : goal.returns
returns c = moved-modest
