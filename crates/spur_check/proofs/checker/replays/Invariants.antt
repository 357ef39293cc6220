use Rattle.std.proofs.Common.{◌≡◌, length}
use Rattle.std.specs.Prelude.{◌++◌}
use Rattle.std.specs.Vec.Iter.{into_iter_items}
use Rattle.spur_check.proofs.Begins.{AreMade}
use Rattle.spur_check.proofs.checker.replays.Given as goal

abbrev pub invariant-loop-code : goal.invariant-loop-code
invariant-loop-code l = record {
  number : l.board ≡ length l.yielded;
  left : l.fn.codes ≡ l.yielded ++ into_iter_items l.code-iterator;
  made : AreMade l.budget l.fn.segs l.fn.codes l.replays.items l.board (into_iter_items l.code-iterator);
}
