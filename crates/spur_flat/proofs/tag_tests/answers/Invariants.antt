use Rattle.std.proofs.Common.{◌≡◌, length}
use Rattle.spur_flat.proofs.tag_tests.answers.Given as goal

abbrev pub invariant-loop-entry : goal.invariant-loop-entry
invariant-loop-entry g l = length l.tags ≡ l.boards
