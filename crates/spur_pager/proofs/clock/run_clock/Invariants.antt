use Rattle.std.proofs.Common.{◌≡◌, ◌<◌, length}
use Rattle.spur_cache.specs.Lens.{OnlyLines}
use Rattle.spur_pager.specs.View.{seen}
use Rattle.spur_pager.proofs.TurnFacts.{IsTurning, left}
use Rattle.spur_pager.proofs.clock.run_clock.Given as goal

abbrev pub invariant-loop : goal.invariant-loop
invariant-loop g l = record {
  own : l.b < length l.boards;
  turning : IsTurning l.b (seen g.B.Backing.meaning g.T.HasCache.lens l.fn.boards l.fn.store)
      (seen g.B.Backing.meaning g.T.HasCache.lens l.boards l.store);
  backing : l.store.backing ≡ l.fn.store.backing;
  lens : OnlyLines g.T.HasCache.lens l.fn.boards l.boards;
}

-- each look that lets the page stay leaves one set bit fewer
abbrev pub decreases-loop : goal.decreases-loop
decreases-loop g l = left (seen g.B.Backing.meaning g.T.HasCache.lens l.boards l.store)
