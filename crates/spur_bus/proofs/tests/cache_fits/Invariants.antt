use Rattle.std.proofs.Common.{◌≡◌, ◌<◌, ℕ, true, Option, Some}
use Rattle.spur_cache.specs.Lines.{line_at}
use Rattle.spur_cache.specs.declared.line.Line.{Line}
use Rattle.spur_bus.specs.Fits.{fits}
use Rattle.spur_bus.proofs.tests.cache_fits.Given as goal

abbrev pub invariant-loop-number : goal.invariant-loop-number
invariant-loop-number l = (slot : ℕ) (line : Line) → slot < l.number → line_at l.cache slot ≡ Some line → fits l.at l.frame line ≡ true
