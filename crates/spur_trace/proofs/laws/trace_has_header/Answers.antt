use Rattle.spur_trace.proofs.LawFacts.{trace_header}
use Rattle.spur_trace.proofs.laws.trace_has_header.Goals as goal

pub returns : goal.returns
returns c = trace_header
