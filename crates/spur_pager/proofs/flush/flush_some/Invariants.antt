use Rattle.std.proofs.Common.{◌≡◌, ◌<◌, length, map}
use Rattle.spur_pager.specs.Flushes.{AreFlushed, places_in}
use Rattle.spur_cache.specs.Lens.{OnlyLines}
use Rattle.spur_pager.specs.View.{seen}
use Rattle.spur_pager.proofs.AheadFacts.{FlushesOn}
use Rattle.spur_pager.proofs.flush.flush_some.Given as goal

-- the places of the lines that are left in this cache are those that the loop has still to come to
abbrev pub invariant-loop-number : goal.invariant-loop-number
invariant-loop-number g l = record {
  own : l.b < length l.boards;
  holder : l.holder < length l.boards;
  flushing : FlushesOn l.b l.page l.most l.left (seen g.B.Backing.meaning g.T.HasCache.lens l.fn.boards l.fn.store)
      (seen g.B.Backing.meaning g.T.HasCache.lens l.boards l.store);
  before : AreFlushed (map g.T.HasCache.lens.lines_of l.boards) l.holder l.page;
  places : places_in (map g.T.HasCache.lens.lines_of l.boards) l.holder l.page ≡ l.number-iterator;
  frames : l.store.frames ≡ l.fn.store.frames;
  backing : l.store.backing ≡ l.fn.store.backing;
  lens : OnlyLines g.T.HasCache.lens l.fn.boards l.boards;
}
