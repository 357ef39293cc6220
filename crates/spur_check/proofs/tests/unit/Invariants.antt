use Rattle.std.proofs.Common.{◌≡◌, length}
use Rattle.std.specs.List.{All}
use Rattle.spur_object.specs.Limits.{IsBoard}
use Rattle.spur_check.proofs.tests.unit.Given as goal

abbrev pub invariant-loop : goal.invariant-loop
invariant-loop l = (length l.boards ≡ l.counter) × All IsBoard l.boards
