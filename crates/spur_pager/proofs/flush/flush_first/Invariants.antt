use Rattle.std.proofs.Common.{◌≡◌, ◌<◌, length, map}
use Rattle.spur_pager.specs.Flushes.{AreFlushed}
use Rattle.spur_cache.specs.Lens.{OnlyLines}
use Rattle.spur_pager.specs.View.{seen}
use Rattle.spur_pager.proofs.AheadFacts.{FlushesOn}
use Rattle.spur_pager.proofs.flush.flush_first.Given as goal

-- the boards before this one have no line of the page any more
abbrev pub invariant-loop-holder : goal.invariant-loop-holder
invariant-loop-holder g l = record {
  own : l.b < length l.boards;
  flushing : FlushesOn l.b l.page l.most l.left (seen g.B.Backing.meaning g.T.HasCache.lens l.fn.boards l.fn.store)
      (seen g.B.Backing.meaning g.T.HasCache.lens l.boards l.store);
  before : AreFlushed (map g.T.HasCache.lens.lines_of l.boards) l.holder l.page;
  frames : l.store.frames ≡ l.fn.store.frames;
  backing : l.store.backing ≡ l.fn.store.backing;
  lens : OnlyLines g.T.HasCache.lens l.fn.boards l.boards;
}
