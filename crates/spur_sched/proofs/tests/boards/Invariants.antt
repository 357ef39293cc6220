use Rattle.std.proofs.Common.{◌≡◌, length}
use Rattle.spur_sched.proofs.tests.boards.Given as goal

-- as many boards as were told of
abbrev pub invariant-loop-k : goal.invariant-loop-k
invariant-loop-k l = length l.boards.items ≡ l.k
