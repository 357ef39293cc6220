use Rattle.std.proofs.Common.{◌≡◌}
use Rattle.spur_swap.proofs.tests.first_wrong.Given as goal

-- there are still so many slots
abbrev pub invariant-loop-i : goal.invariant-loop-i
invariant-loop-i g l = (g.B.Backing.meaning l.swap).slots ≡ 3
