use Rattle.spur_trace.proofs.FirstLine.{no_entry_in_front}
use Rattle.spur_trace.proofs.laws.no_entry_in_front.Goals as goal

pub returns : goal.returns
returns c = no_entry_in_front
