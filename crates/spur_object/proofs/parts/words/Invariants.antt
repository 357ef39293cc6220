use Rattle.std.specs.List.{All}
use Rattle.std.proofs.Common.{◌≡◌, ◌+◌, ◌-◌, ◌*◌, ◌/◌, ◌≤◌, ◌++◌, length, min, vec_capacity, vec_len}
use Rattle.spur_object.specs.Limits.{IsWord}
use Rattle.spur_object.specs.Fields.{bytes_of, word_fields}
use Rattle.spur_object.specs.Reading.{list_fields}
use Rattle.spur_object.proofs.parts.words.Given as goal

abbrev pub invariant-loop-cursor : goal.invariant-loop-cursor
invariant-loop-cursor l = record {
  few : vec_len l.words ≤ l.count;
  each : All IsWord l.words.items;
  bytes_are : l.fn.cursor ≡ bytes_of (list_fields word_fields l.words.items) ++ l.cursor;
  spent : 12 * vec_len l.words + length l.cursor ≤ length l.fn.cursor;
  room : vec_capacity l.words ≡ min l.count (length l.fn.cursor / 12);
}

abbrev pub decreases-loop-cursor : goal.decreases-loop-cursor
decreases-loop-cursor l = l.count - vec_len l.words
