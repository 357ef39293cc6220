use Rattle.spur_frames.proofs.FreeFacts.{none-is-taken}
use Rattle.spur_frames.proofs.laws.look_next_finds_any.Goals as goal

pub returns : goal.returns
returns c = none-is-taken
