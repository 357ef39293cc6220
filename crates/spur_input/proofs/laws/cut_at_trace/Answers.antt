use Rattle.spur_input.proofs.CutFacts.{cut_at_trace}
use Rattle.spur_input.proofs.laws.cut_at_trace.Goals as goal

pub returns : goal.returns
returns c = cut_at_trace
