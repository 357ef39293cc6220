use Rattle.std.proofs.Common.{◌≡◌, ◌+◌, drop}
use Rattle.spur_frames.specs.Frames.{free_from}
use Rattle.spur_frames.proofs.table.FrameTable.free_one.Given as goal

-- no frame was free so far
abbrev pub invariant-loop-k : goal.invariant-loop-k
invariant-loop-k l = free_from l.self.first l.self.held ≡ free_from (l.self.first + l.k) (drop l.k l.self.held)
