use Rattle.std.proofs.Common.{◌≡◌, ◌^◌, ◌-◌, [], ◌<◌, refl, rules, arith, Err}
use Rattle.spur_object.specs.declared.fault.ObjKind.TheVariants.{Field}
use Rattle.spur_object.specs.Fields.{page_fields}
use Rattle.spur_object.specs.Limits.{IsPage}
use Rattle.spur_object.specs.Reading.{IsProtection, IsWithin, one_field, protection_fields}
use Rattle.spur_object.proofs.CursorFacts.{lift_stop, out}
use Rattle.spur_object.proofs.ShapeFacts.{page_number_part, page_protection_part}
use Rattle.spur_object.proofs.parts.page.Goals as goal

pub returns-in_err-page-clause-fault : goal.returns-in_err-page-clause-fault
returns-in_err-page-clause-fault c =
    let is : c.from_residual.result ≡ Err c.in_err-page.field-0.0 = search rules in
    out IsPage page_fields c.args.cursor.now c.number.new.self c.from_residual.result c.in_err-page.field-0.0 is
    (lift_stop (IsWithin 0 (2 ^ 26 - 1)) (one_field Field) IsPage page_fields [] page_number_part c.args.cursor.now c.args.cursor.now c.number.new.self refl
    c.in_err-page.field-0.0 c.in_err-page.ensures.fault)

pub returns-in_err-prot-clause-fault : goal.returns-in_err-prot-clause-fault
returns-in_err-prot-clause-fault c =
    let is : c.from_residual-in_err-prot.result ≡ Err c.in_err-prot.field-0.0 = search rules in
    let high = c.in_ok-page.ensures.found.limits.high in
    let below : c.in_ok-page.page < 2 ^ 26 = omega arith in
    out IsPage page_fields c.args.cursor.now c.protection.new.self c.from_residual-in_err-prot.result c.in_err-prot.field-0.0 is
    (lift_stop IsProtection protection_fields IsPage page_fields (one_field Field c.in_ok-page.page) (page_protection_part c.in_ok-page.page below)
    c.args.cursor.now c.number.new.self c.protection.new.self c.in_ok-page.ensures.found.bytes_are
    c.in_err-prot.field-0.0 c.in_err-prot.ensures.fault)
