use Rattle.std.proofs.Common.{◌∙◌, sym, arith}
use Rattle.spur_object.proofs.ReadFacts.{byte_below, fault_again, fault_is_one, unit_again, unit_not_refused}
use Rattle.spur_object.proofs.read.read_object.Goals as goal

pub returns-in-Ok-clause-again : goal.returns-in-Ok-clause-again
returns-in-Ok-clause-again c =
    λ v is e. unit_again c.args.bytes.now c.in-Ok.unit v c.in-Ok.ensures.limits (sym c.new-cursor.ensures ∙ c.in-Ok.ensures.found) is e

pub returns-in-Ok-clause-refused : goal.returns-in-Ok-clause-refused
returns-in-Ok-clause-refused c =
    unit_not_refused c.args.bytes.now c.in-Ok.unit c.in-Ok.ensures.limits (sym c.new-cursor.ensures ∙ c.in-Ok.ensures.found)

pub overflow_cast-result : goal.overflow_cast-result
overflow_cast-result c =
    let fault = rw (c.in-Err-Fault.field-0-is, c.new-cursor.ensures) at c.in-Err-Fault.ensures.fault in
    let below = byte_below c.args.bytes.now c.whole.new.cursor c.in-Err-Fault.kind fault in
    let left = c.left.ensures in
    omega arith

pub returns-in-Err-Fault-clause-again : goal.returns-in-Err-Fault-clause-again
returns-in-Err-Fault-clause-again c =
    let fault = rw (c.in-Err-Fault.field-0-is, c.new-cursor.ensures) at c.in-Err-Fault.ensures.fault in
    rw c.left.ensures (fault_is_one c.args.bytes.now c.whole.new.cursor c.in-Err-Fault.kind fault)

pub returns-in-Err-Fault-clause-refused : goal.returns-in-Err-Fault-clause-refused
returns-in-Err-Fault-clause-refused c =
    let fault = rw (c.in-Err-Fault.field-0-is, c.new-cursor.ensures) at c.in-Err-Fault.ensures.fault in
    rw c.left.ensures (fault_again c.args.bytes.now c.whole.new.cursor c.in-Err-Fault.kind fault)
