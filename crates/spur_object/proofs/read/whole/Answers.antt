use Rattle.std.proofs.Common.{◌≡◌, rules, Err}
use Rattle.spur_object.proofs.FaultFacts.{out_end, stop_end}
use Rattle.spur_object.proofs.read.whole.Goals as goal

pub returns-in_err-unit-clause-fault : goal.returns-in_err-unit-clause-fault
returns-in_err-unit-clause-fault c =
    let is : c.from_residual.result ≡ Err c.in_err-unit.field-0.0 = search rules in
    out_end c.args.cursor.now c.unit.new.cursor c.from_residual.result c.in_err-unit.field-0.0 is
    (stop_end c.args.cursor.now c.unit.new.cursor c.in_err-unit.field-0.0 c.in_err-unit.ensures.fault)
