use Rattle.std.proofs.Common.{◌∙◌, ap, refl, sym}
use Rattle.spur_trace.specs.Reading.{header_at}
use Rattle.spur_trace.specs.declared.fault.TraceKind.TheVariants as kind
use Rattle.spur_trace.proofs.TraceFacts.{found_header, no_header, tells}
use Rattle.spur_trace.proofs.read.read_head.Goals as goal

pub returns-in-Some-clause-found : goal.returns-in-Some-clause-found
returns-in-Some-clause-found c = found_header c.args.bytes.now c.in-Some.head c.header.new.rest (ap header_at (sym c.new-rest.ensures) ∙ c.in-Some.ensures)

pub returns-in-None-clause-fault : goal.returns-in-None-clause-fault
returns-in-None-clause-fault c = tells c.args.bytes.now c.bad.result kind.BadHeader 1 c.bad.ensures (refl, no_header c.args.bytes.now (ap header_at (sym c.new-rest.ensures) ∙ c.in-None.ensures))
