use Rattle.spur_cache.specs.Lens.{OnlyLines, caches}
use Rattle.spur_core.specs.Finish.{AreEmptyTo, StillAgree}
use Rattle.spur_core.proofs.finish.flush_all.Given as goal

-- the boards before this one have no line any more
abbrev pub invariant-loop-holder : goal.invariant-loop-holder
invariant-loop-holder g l = record {
  still : StillAgree (caches g.T.HasCache.lens l.fn.boards) l.fn.phys (caches g.T.HasCache.lens l.boards) l.phys;
  empty : AreEmptyTo (caches g.T.HasCache.lens l.boards) l.holder 0;
  lens : OnlyLines g.T.HasCache.lens l.fn.boards l.boards;
}
