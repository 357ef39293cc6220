use Rattle.std.proofs.Common.{◌≡◌, ◌<◌, ◌*◌, ◌%◌, ℕ, ap, subst, length}
use Rattle.spur_cache.proofs.SpanFacts.{wide_span}
use Rattle.spur_cache.proofs.cache.Cache.span.Goals as goal

pub returns-else-lines-le-PAGE_BLOCKS : goal.returns-else-lines-le-PAGE_BLOCKS
returns-else-lines-le-PAGE_BLOCKS c =
    let size : c.lines-lines.result ≡ length c.args.self.now = c.lines-lines.ensures.value in
    let more : 128 < length c.args.self.now = subst (λ (n : ℕ). 128 < n) size c.if-lines-le-PAGE_BLOCKS.false in
    wide_span c.args.self.now c.args.page (c.args.page * 128 % c.lines-lines.result) c.lines-lines.ensures.cache more (ap (λ (n : ℕ). c.args.page * 128 % n) size)
