use Rattle.std.proofs.Common.{◌≡◌, length}
use Rattle.spur_check.proofs.tests.opening.Given as goal

abbrev pub invariant-loop : goal.invariant-loop
invariant-loop l = length l.codes.items ≡ l.counter
