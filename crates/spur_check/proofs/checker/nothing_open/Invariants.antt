use Rattle.std.proofs.Common.{◌≡◌, replicate}
use Rattle.spur_check.specs.Numbered.{none_open}
use Rattle.spur_check.proofs.checker.nothing_open.Given as goal

abbrev pub invariant-loop : goal.invariant-loop
invariant-loop l = l.lists.items ≡ replicate l.counter none_open
