use Rattle.spur_trace.proofs.LawFacts.{headers_once}
use Rattle.spur_trace.proofs.laws.one_header.Goals as goal

pub returns : goal.returns
returns c = headers_once
