use Rattle.std.proofs.Common.{◌≡◌}
use Rattle.spur_cache.specs.Lens.{OnlyLines, caches}
use Rattle.spur_bus.specs.Calls.{line_count}
use Rattle.spur_core.specs.Finish.{AreEmptyTo, StillAgree}
use Rattle.spur_core.proofs.finish.flush_cache.Given as goal

-- the places before this one are empty
abbrev pub invariant-loop-number : goal.invariant-loop-number
invariant-loop-number g l = record {
  still : StillAgree (caches g.T.HasCache.lens l.fn.boards) l.fn.phys (caches g.T.HasCache.lens l.boards) l.phys;
  count : l.count ≡ line_count (caches g.T.HasCache.lens l.boards);
  empty : AreEmptyTo (caches g.T.HasCache.lens l.boards) l.holder l.number;
  lens : OnlyLines g.T.HasCache.lens l.fn.boards l.boards;
}
