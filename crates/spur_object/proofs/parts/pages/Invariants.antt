use Rattle.std.specs.List.{All}
use Rattle.std.proofs.Common.{◌≡◌, ◌+◌, ◌-◌, ◌*◌, ◌/◌, ◌≤◌, ◌++◌, length, min, vec_capacity, vec_len}
use Rattle.spur_object.specs.Limits.{IsPage}
use Rattle.spur_object.specs.Fields.{bytes_of, page_fields}
use Rattle.spur_object.specs.Reading.{list_fields}
use Rattle.spur_object.proofs.parts.pages.Given as goal

abbrev pub invariant-loop-cursor : goal.invariant-loop-cursor
invariant-loop-cursor l = record {
  few : vec_len l.pages ≤ l.count;
  each : All IsPage l.pages.items;
  bytes_are : l.fn.cursor ≡ bytes_of (list_fields page_fields l.pages.items) ++ l.cursor;
  spent : 8 * vec_len l.pages + length l.cursor ≤ length l.fn.cursor;
  room : vec_capacity l.pages ≡ min l.count (length l.fn.cursor / 8);
}

abbrev pub decreases-loop-cursor : goal.decreases-loop-cursor
decreases-loop-cursor l = l.count - vec_len l.pages
