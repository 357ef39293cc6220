use Rattle.std.proofs.Common.{◌≡◌, ◌∙◌, ◌+◌, ◌*◌, ◌<◌, ◌≤◌, ap, sym, length, List, Option, arith}
use Rattle.spur_cache.specs.declared.line.Line.{Line}
use Rattle.spur_cache.specs.Lines.{occupant}
use Rattle.spur_bus.specs.Fits.{may_go}
use Rattle.spur_bus.proofs.TestFacts.{may-read}
use Rattle.spur_bus.proofs.tests.may_read.Goals as goal

pub returns : goal.returns
returns g c fit =
    let lines_of = g.T.HasCache.lens.lines_of in
    let whole : 1024 * c.frames.result ≡ length c.args.phys.now = c.frames.ensures.whole in
    let low : c.args.frame < c.frames.result = c.if-frame-frames.false in
    let room : c.args.frame * 1024 + 1024 ≤ length c.args.phys.now = omega arith in
    let go = ap (λ (ls : List (Option Line)). may_go c.args.at (occupant ls c.args.at)) (sym (c.cache.ensures.lines ∙ ap lines_of c.index-boards-b.is)) ∙ sym c.may_replace.ensures ∙ c.if-not-may_replace.false in
    may-read lines_of c.args.boards.now c.args.phys.now c.args.b c.args.at c.args.frame c.index-boards-b.result c.requires.own room go (c.all_fit.ensures fit)
