use Rattle.std.proofs.Common.{◌≡◌, ◌^◌, ◌-◌, [], ◌++◌, refl, rules, Err}
use Rattle.spur_object.specs.declared.fault.ObjKind.TheVariants.{Field}
use Rattle.spur_object.specs.Fields.{word_fields}
use Rattle.spur_object.specs.Limits.{IsWord}
use Rattle.spur_object.specs.Reading.{IsOffset, IsWithin, one_field}
use Rattle.spur_object.proofs.CursorFacts.{lift_stop, out, read_on}
use Rattle.spur_object.proofs.ShapeFacts.{word_offset_part, word_segment_part, word_value_part}
use Rattle.spur_object.proofs.parts.word.Goals as goal

pub returns-in_err-segment-clause-fault : goal.returns-in_err-segment-clause-fault
returns-in_err-segment-clause-fault c =
    let is : c.from_residual.result ≡ Err c.in_err-segment.field-0.0 = search rules in
    out IsWord word_fields c.args.cursor.now c.number.new.self c.from_residual.result c.in_err-segment.field-0.0 is
    (lift_stop (IsWithin 0 255) (one_field Field) IsWord word_fields [] word_segment_part c.args.cursor.now c.args.cursor.now c.number.new.self refl
    c.in_err-segment.field-0.0 c.in_err-segment.ensures.fault)

pub returns-in_err-offset-clause-fault : goal.returns-in_err-offset-clause-fault
returns-in_err-offset-clause-fault c =
    let is : c.from_residual-in_err-offset.result ≡ Err c.in_err-offset.field-0.0 = search rules in
    out IsWord word_fields c.args.cursor.now c.offset.new.self c.from_residual-in_err-offset.result c.in_err-offset.field-0.0 is
    (lift_stop IsOffset (one_field Field) IsWord word_fields (one_field Field c.in_ok-segment.segment) (word_offset_part c.in_ok-segment.segment c.in_ok-segment.ensures.found.limits.high)
    c.args.cursor.now c.number.new.self c.offset.new.self c.in_ok-segment.ensures.found.bytes_are
    c.in_err-offset.field-0.0 c.in_err-offset.ensures.fault)

pub returns-in_err-value-clause-fault : goal.returns-in_err-value-clause-fault
returns-in_err-value-clause-fault c =
    let is : c.from_residual-in_err-value.result ≡ Err c.in_err-value.field-0.0 = search rules in
    out IsWord word_fields c.args.cursor.now c.number-2.new.self c.from_residual-in_err-value.result c.in_err-value.field-0.0 is
    (lift_stop (IsWithin 0 (2 ^ 32 - 1)) (one_field Field) IsWord word_fields (one_field Field c.in_ok-segment.segment ++ one_field Field c.in_ok-offset.offset)
    (word_value_part c.in_ok-segment.segment c.in_ok-offset.offset c.in_ok-segment.ensures.found.limits.high c.in_ok-offset.ensures.found.limits)
    c.args.cursor.now c.offset.new.self c.number-2.new.self
    (read_on IsOffset (one_field Field) c.args.cursor.now c.number.new.self c.offset.new.self (one_field Field c.in_ok-segment.segment) c.in_ok-offset.offset c.in_ok-segment.ensures.found.bytes_are c.in_ok-offset.ensures.found)
    c.in_err-value.field-0.0 c.in_err-value.ensures.fault)
