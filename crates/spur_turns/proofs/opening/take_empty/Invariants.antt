use Rattle.std.proofs.Common.{◌≡◌, ◌+◌}
use Rattle.spur_turns.specs.Hands.{HoldsFirst, SameButStock}
use Rattle.spur_turns.specs.Views.{first_view}
use Rattle.spur_turns.proofs.opening.take_empty.Given as goal

abbrev pub invariant-loop-next : goal.invariant-loop-next
invariant-loop-next g l = record {
  table : l.seat.table_id ≡ l.fn.seat.table_id;
  held : HoldsFirst (l.next + 1) l.seat.me;
  same : SameButStock first_view l.seat.me.0;
}
