use Rattle.std.proofs.Common.{◌≡◌, ◌<◌, ℕ, true, map, Option, Some}
use Rattle.spur_cache.specs.declared.line.Line.{Line}
use Rattle.spur_bus.specs.Boards.{line_in}
use Rattle.spur_bus.specs.Fits.{fits}
use Rattle.spur_bus.proofs.tests.all_fit.Given as goal

abbrev pub invariant-loop-board : goal.invariant-loop-board
invariant-loop-board g l =
    (i slot : ℕ) (line : Line) → i < l.board-index → line_in (map g.T.HasCache.lens.lines_of l.boards) i slot ≡ Some line → fits l.at l.frame line ≡ true
