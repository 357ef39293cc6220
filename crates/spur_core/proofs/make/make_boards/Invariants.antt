use Rattle.std.proofs.Common.{◌≡◌, length}
use Rattle.std.specs.Prelude.{◌++◌}
use Rattle.std.specs.Vec.Iter.{into_iter_items}
use Rattle.spur_core.specs.Begin.{AreNewBoards}
use Rattle.spur_core.proofs.make.make_boards.Given as goal

-- the processors that were taken have their boards
abbrev pub invariant-loop-cpu : goal.invariant-loop-cpu
invariant-loop-cpu g l = record {
  number : l.number ≡ length l.yielded;
  left : l.fn.cpus.items ≡ l.yielded ++ into_iter_items l.cpu-iterator;
  new : AreNewBoards l.segs l.lines l.budget l.yielded l.boards.items;
}
