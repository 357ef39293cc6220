use Rattle.spur_trace.proofs.LengthFacts.{room_is_enough}
use Rattle.spur_trace.proofs.laws.room_is_enough.Goals as goal

pub returns : goal.returns
returns c = room_is_enough
