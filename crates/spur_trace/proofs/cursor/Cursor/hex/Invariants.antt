use Rattle.std.proofs.Common.{◌-◌, ◌≡◌, ◌<◌, ◌^◌}
use Rattle.spur_trace.specs.Reading.{hex_at, hex_on}
use Rattle.spur_trace.proofs.cursor.Cursor.hex.Given as goal

abbrev pub invariant-loop-i : goal.invariant-loop-i
invariant-loop-i l = record {
  so_far : hex_on (l.count - l._i) l.number l.self ≡ hex_at l.count l.fn.self;
  small : l.number < 16 ^ l._i;
}
