use Rattle.std.proofs.Common.{◌≡◌, ◌≤◌, vec_capacity}
use Rattle.spur_turns.specs.Seats.{AreSplit}
use Rattle.spur_turns.proofs.opening.seat_all.Given as goal

abbrev pub invariant-loop-number : goal.invariant-loop-number
invariant-loop-number g l = record {
  table : l.first.table_id ≡ l.fn.first.table_id;
  wide : l.fn.count ≤ vec_capacity l.seats;
  seats : AreSplit l.fn.first.table_id l.fn.first.me.0 l.number l.first.me.0 l.first.me.1 l.seats.items;
}
