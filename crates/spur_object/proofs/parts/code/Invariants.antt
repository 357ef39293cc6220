use Rattle.std.specs.List.{All}
use Rattle.std.proofs.Common.{◌≡◌, ◌+◌, ◌-◌, ◌*◌, ◌/◌, ◌≤◌, ◌++◌, length, min, vec_capacity, vec_len}
use Rattle.spur_isa.specs.Ranges.{IsInstr}
use Rattle.spur_object.specs.Fields.{bytes_of, instr_fields}
use Rattle.spur_object.specs.Reading.{list_fields}
use Rattle.spur_object.proofs.parts.code.Given as goal

abbrev pub invariant-loop-cursor : goal.invariant-loop-cursor
invariant-loop-cursor l = record {
  few : vec_len l.code ≤ l.count;
  each : All IsInstr l.code.items;
  bytes_are : l.fn.cursor ≡ bytes_of (list_fields instr_fields l.code.items) ++ l.cursor;
  spent : 4 * vec_len l.code + length l.cursor ≤ length l.fn.cursor;
  room : vec_capacity l.code ≡ min l.count (length l.fn.cursor / 4);
}

abbrev pub decreases-loop-cursor : goal.decreases-loop-cursor
decreases-loop-cursor l = l.count - vec_len l.code
