use Rattle.std.specs.List.{All}
use Rattle.std.proofs.Common.{◌≡◌, ◌+◌, ◌-◌, ◌*◌, ◌/◌, ◌≤◌, ◌++◌, length, min, vec_capacity, vec_len}
use Rattle.spur_object.specs.Limits.{IsBoard}
use Rattle.spur_object.specs.Fields.{bytes_of, board_fields}
use Rattle.spur_object.specs.Reading.{list_fields}
use Rattle.spur_object.proofs.parts.boards.Given as goal

abbrev pub invariant-loop-alloc : goal.invariant-loop-alloc
invariant-loop-alloc l = record {
  few : vec_len l.boards ≤ l.count;
  each : All IsBoard l.boards.items;
  bytes_are : l.fn.cursor ≡ bytes_of (list_fields board_fields l.boards.items) ++ l.cursor;
  spent : 8 * vec_len l.boards + length l.cursor ≤ length l.fn.cursor;
  room : vec_capacity l.boards ≡ min l.count (length l.fn.cursor / 8);
}

abbrev pub decreases-loop-alloc : goal.decreases-loop-alloc
decreases-loop-alloc l = l.count - vec_len l.boards
