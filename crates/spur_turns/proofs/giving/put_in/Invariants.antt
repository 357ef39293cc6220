use Rattle.std.proofs.Common.{◌≡◌, ◌≤◌, length, vec_capacity}
use Rattle.spur_turns.specs.Hands.{IsFilling}
use Rattle.spur_turns.proofs.giving.put_in.Given as goal

abbrev pub invariant-loop-place : goal.invariant-loop-place
invariant-loop-place g l = record {
  table : l.seat.table_id ≡ l.initial.seat.table_id;
  view : l.seat.me.0 ≡ l.initial.seat.me.0;
  few : length l.places.items ≤ length l.initial.places.items;
  wide : length l.initial.places.items ≤ vec_capacity l.places;
  fills : IsFilling l.initial.places.items l.seat.me.1 l.places.items;
}

abbrev pub decreases-loop-place : goal.decreases-loop-place
decreases-loop-place g l = length l.places.items
