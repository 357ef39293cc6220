use Rattle.std.proofs.Common.{◌≡◌, ◌+◌, drop}
use Rattle.spur_frames.specs.Frames.{taken_from}
use Rattle.spur_frames.proofs.table.first_taken.Given as goal

-- no frame was taken so far
abbrev pub invariant-loop-k : goal.invariant-loop-k
invariant-loop-k l = taken_from l.first l.part ≡ taken_from (l.first + l.k) (drop l.k l.part)
