use Rattle.std.proofs.Common.{◌≡◌, ◌+◌, ◌-◌, ◌*◌, ◌/◌, ◌^◌, ◌≤◌, ◌++◌, length, min, vec_capacity, vec_len}
use Rattle.std.specs.List.{All}
use Rattle.spur_flat.specs.WellFormed.{HasWord, IsWellFormed}
use Rattle.spur_trace.specs.Formed.{IsHead}
use Rattle.spur_trace.specs.Line.{trace_text}
use Rattle.spur_trace.proofs.read.entries.Given as goal

abbrev pub invariant-loop-rest : goal.invariant-loop-rest
invariant-loop-rest l = record {
  is_head : IsHead l.head;
  formed : All (IsWellFormed l.head.boards) l.entries.items;
  words : All HasWord l.entries.items;
  text_is : l.bytes ≡ trace_text l.head l.entries.items ++ l.rest;
  line_is : l.line ≡ min (length l.entries.items + 2) (2 ^ 32 - 1);
  shorter : 17 * vec_len l.entries + length l.rest ≤ length l.bytes;
  room : vec_capacity l.entries ≡ length l.bytes / 17;
}

abbrev pub decreases-loop-rest : goal.decreases-loop-rest
decreases-loop-rest l = length l.rest
