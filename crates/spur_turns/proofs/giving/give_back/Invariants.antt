use Rattle.std.proofs.Common.{◌≡◌, ◌≤◌, ◌+◌}
use Rattle.spur_turns.specs.Hands.{IsReady, SameButStock}
use Rattle.spur_turns.proofs.giving.give_back.Given as goal

abbrev pub invariant-loop-left : goal.invariant-loop-left
invariant-loop-left g l = record {
  table : l.seat.table_id ≡ l.fn.seat.table_id;
  low : l.left ≤ l.fn.count;
  ready : IsReady (l.left + 1) l.seat.me;
  same : SameButStock l.fn.seat.me.0 l.seat.me.0;
}

abbrev pub decreases-loop-left : goal.decreases-loop-left
decreases-loop-left g l = l.left
