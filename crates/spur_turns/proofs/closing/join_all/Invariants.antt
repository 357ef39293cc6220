use Rattle.std.proofs.Common.{◌≡◌, ◌+◌, ◌++◌, length, []}
use Rattle.spur_turns.specs.Shown.{names_of}
use Rattle.spur_turns.specs.Seats.{AreOthers}
use Rattle.spur_turns.proofs.closing.join_all.Given as goal

abbrev pub invariant-loop-last : goal.invariant-loop-last
invariant-loop-last g l = record {
  table : l.first.table_id ≡ l.initial.first.table_id;
  view : l.first.me.0 ≡ record l.initial.first.me.0 { seats = length l.seats.items + 1; joined = l.first.me.0.joined };
  hand : l.first.me.1 ≡ [];
  names : names_of l.seats.items ++ l.first.me.0.joined ≡ names_of l.initial.seats.items;
  others : AreOthers l.fn.table.table_id l.seats.items;
}

abbrev pub decreases-loop-last : goal.decreases-loop-last
decreases-loop-last g l = length l.seats.items
