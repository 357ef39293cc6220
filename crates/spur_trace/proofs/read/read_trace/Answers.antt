use Rattle.spur_trace.proofs.LawFacts.{given, under_header}
use Rattle.spur_trace.proofs.read.read_trace.Goals as goal

pub returns-clause-under : goal.returns-clause-under
returns-clause-under c = under_header (λ entries. entries.items) c.entries-answer.result c.args.bytes.now c.entries-answer.ensures.found

pub returns-clause-only : goal.returns-clause-only
returns-clause-only c = given (λ entries. entries.items) c.entries-answer.result c.args.bytes.now c.entries-answer.ensures.found c.entries-answer.ensures.fault
