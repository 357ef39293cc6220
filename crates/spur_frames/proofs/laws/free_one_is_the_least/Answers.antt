use Rattle.spur_frames.proofs.FreeFacts.{none-below-is-free, none-is-free}
use Rattle.spur_frames.proofs.laws.free_one_is_the_least.Goals as goal

pub returns-clause-least : goal.returns-clause-least
returns-clause-least c = none-below-is-free

pub returns-clause-none : goal.returns-clause-none
returns-clause-none c = none-is-free
