use Rattle.std.proofs.Common.{◌≡◌, [], refl, rules, Err}
use Rattle.spur_isa.specs.Ranges.{IsInstr}
use Rattle.spur_object.specs.declared.fault.ObjKind.TheVariants.{Field}
use Rattle.spur_object.specs.Fields.{board_fields, instr_fields}
use Rattle.spur_object.specs.Limits.{IsBoard}
use Rattle.spur_object.specs.Reading.{AreSegments, IsCounted, IsWithin, list_fields, one_field, segment_fields}
use Rattle.spur_object.proofs.CursorFacts.{lift_stop, out, read_on}
use Rattle.spur_object.proofs.ShapeFacts.{before_code, board_begins, board_code_part, board_length_part, board_segments_part}
use Rattle.spur_object.proofs.parts.board.Goals as goal

pub returns-in_err-segs-clause-fault : goal.returns-in_err-segs-clause-fault
returns-in_err-segs-clause-fault c =
    let is : c.from_residual.result ≡ Err c.in_err-segs.field-0.0 = search rules in
    out IsBoard board_fields c.args.cursor.now c.segments.new.self c.from_residual.result c.in_err-segs.field-0.0 is
    (lift_stop AreSegments segment_fields IsBoard board_fields [] board_segments_part c.args.cursor.now c.args.cursor.now c.segments.new.self refl
    c.in_err-segs.field-0.0 c.in_err-segs.ensures.fault)

pub returns-in_err-length-clause-fault : goal.returns-in_err-length-clause-fault
returns-in_err-length-clause-fault c =
    let is : c.from_residual-in_err-length.result ≡ Err c.in_err-length.field-0.0 = search rules in
    out IsBoard board_fields c.args.cursor.now c.number.new.self c.from_residual-in_err-length.result c.in_err-length.field-0.0 is
    (lift_stop (IsWithin 0 4096) (one_field Field) IsBoard board_fields (segment_fields c.in_ok-segs.segs) (board_length_part c.in_ok-segs.segs c.in_ok-segs.ensures.found.limits)
    c.args.cursor.now c.segments.new.self c.number.new.self c.in_ok-segs.ensures.found.bytes_are
    c.in_err-length.field-0.0 c.in_err-length.ensures.fault)

pub returns-in_err-code-clause-fault : goal.returns-in_err-code-clause-fault
returns-in_err-code-clause-fault c =
    let is : c.from_residual-in_err-code.result ≡ Err c.in_err-code.field-0.0 = search rules in
    let segs = c.in_ok-segs.segs in
    let count = c.in_ok-length.length in
    let head_read = read_on (IsWithin 0 4096) (one_field Field) c.args.cursor.now c.segments.new.self c.number.new.self (segment_fields segs) count
    c.in_ok-segs.ensures.found.bytes_are c.in_ok-length.ensures.found in
    out IsBoard board_fields c.args.cursor.now c.code.new.cursor c.from_residual-in_err-code.result c.in_err-code.field-0.0 is
    (lift_stop (IsCounted IsInstr count) (list_fields instr_fields) IsBoard board_fields (before_code segs count)
    (board_code_part segs count c.in_ok-segs.ensures.found.limits c.in_ok-length.ensures.found.limits.high)
    c.args.cursor.now c.number.new.self c.code.new.cursor head_read
    c.in_err-code.field-0.0 c.in_err-code.ensures.fault)

pub returns-clause-found : goal.returns-clause-found
returns-clause-found c =
    let segs = c.in_ok-segs.segs in
    let count = c.in_ok-length.length in
    let head_read = read_on (IsWithin 0 4096) (one_field Field) c.args.cursor.now c.segments.new.self c.number.new.self (segment_fields segs) count
    c.in_ok-segs.ensures.found.bytes_are c.in_ok-length.ensures.found in
    let all_read = read_on (IsCounted IsInstr count) (list_fields instr_fields) c.args.cursor.now c.number.new.self c.code.new.cursor (before_code segs count) c.in_ok-code.code.items
    head_read c.in_ok-code.ensures.found in
    rw c.from_vec.ensures (board_begins c.args.cursor.now c.code.new.cursor segs count c.in_ok-code.code.items
    c.in_ok-segs.ensures.found.limits c.in_ok-length.ensures.found.limits.high c.in_ok-code.ensures.found.limits all_read)
