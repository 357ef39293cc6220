use Rattle.std.proofs.Common.{◌∙◌, ap, subst, map, List, Option}
use Rattle.spur_cache.specs.declared.line.Line.{Line}
use Rattle.spur_bus.specs.Fits.{EachFits}
use Rattle.spur_bus.proofs.TestFacts.{fits_all, fits_more}
use Rattle.spur_bus.proofs.tests.all_fit.Goals as goal

pub loop-board-preserved : goal.loop-board-preserved
loop-board-preserved g c =
    let lines_of = g.T.HasCache.lens.lines_of in
    let cache = subst (λ (ls : List (Option Line)). EachFits ls c.args.at c.args.frame) (c.cache.ensures.lines ∙ ap lines_of c.board-item.is) (c.cache_fits.ensures c.if-not-cache_fits.false) in
    fits_more lines_of c.args.boards.now c.loop-board.board-index c.args.at c.args.frame c.board-item.result c.loop-board-test.true cache c.loop-board.invariant

pub returns : goal.returns
returns g c _ = fits_all g.T.HasCache.lens.lines_of c.args.boards.now c.loop-board.board-index c.args.at c.args.frame c.loop-board-test.false c.loop-board.invariant
