use Rattle.std.proofs.Common.{◌≡◌, [], refl, rules, Err}
use Rattle.spur_object.specs.declared.fault.ObjKind.TheVariants.{Field}
use Rattle.spur_object.specs.Reading.{IsProtection, IsWithin, one_field, protection_fields}
use Rattle.spur_object.proofs.CursorFacts.{lift_stop, out}
use Rattle.spur_object.proofs.ShapeFacts.{protection_part}
use Rattle.spur_object.proofs.cursor.Cursor.protection.Goals as goal

pub returns-in_err-number-clause-fault : goal.returns-in_err-number-clause-fault
returns-in_err-number-clause-fault c =
    let is : c.from_residual.result ≡ Err c.in_err-number.field-0.0 = search rules in
    let stop = lift_stop (IsWithin 0 2) (one_field Field) IsProtection protection_fields [] protection_part c.args.self.now c.args.self.now c.number.new.self refl
    c.in_err-number.field-0.0 c.in_err-number.ensures.fault in
    out IsProtection protection_fields c.args.self.now c.number.new.self c.from_residual.result c.in_err-number.field-0.0 is stop
