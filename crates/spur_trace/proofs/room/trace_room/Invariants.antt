use Rattle.std.proofs.Common.{◌≡◌, ◌+◌, take}
use Rattle.std.specs.List.{sum_by}
use Rattle.spur_trace.specs.Room.{line_room}
use Rattle.spur_trace.proofs.room.trace_room.Given as goal

abbrev pub invariant-loop-entry : goal.invariant-loop-entry
invariant-loop-entry l = l.room ≡ 22 + sum_by line_room (take l.entry-index l.entries)
