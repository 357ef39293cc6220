use Rattle.std.proofs.Common.{arith}
use Rattle.spur_trace.proofs.HexFacts.{hex_few, hex_more, hex_next}
use Rattle.spur_trace.proofs.cursor.Cursor.hex.Goals as goal

pub overflow_mul-number : goal.overflow_mul-number
overflow_mul-number c = let h = hex_few c.loop-i.number c.loop-i._i c.loop-i.invariant.small (omega arith) in omega arith

pub overflow_add-number : goal.overflow_add-number
overflow_add-number c = let h = hex_few c.loop-i.number c.loop-i._i c.loop-i.invariant.small (omega arith) in grind arith

pub loop-i-preserved : goal.loop-i-preserved
loop-i-preserved c = record {
  so_far = hex_next c.args.count c.loop-i._i c.loop-i.number c.in_ok-number.field-0 c.loop-i.self c.hex_digit.new.self _ (omega arith) c.in_ok-number.ensures.reads c.loop-i.invariant.so_far;
  small = hex_more c.loop-i.number c.in_ok-number.field-0 c.loop-i._i c.loop-i.invariant.small c.in_ok-number.ensures.small;
}
