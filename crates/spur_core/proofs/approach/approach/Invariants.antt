use Rattle.std.proofs.Common.{◌<◌, [], get_or, length}
use Rattle.spur_cache.specs.Lens.{OnlyLines, caches}
use Rattle.spur_walk.specs.Bounds.{steps_left}
use Rattle.spur_pager.specs.View.{seen}
use Rattle.spur_core.specs.Approach.{OnWay}
use Rattle.spur_core.proofs.approach.approach.Given as goal

abbrev pub invariant-loop-entry : goal.invariant-loop-entry
invariant-loop-entry g l = record {
  own : l.b < length l.boards;
  way : OnWay l.b l.at l.need (seen g.B.Backing.meaning g.T.HasCache.lens l.fn.boards l.fn.store) (seen g.B.Backing.meaning g.T.HasCache.lens l.boards l.store);
  lens : OnlyLines g.T.HasCache.lens l.fn.boards l.boards;
}

abbrev pub decreases-loop-entry : goal.decreases-loop-entry
decreases-loop-entry g l = steps_left (get_or (caches g.T.HasCache.lens l.boards) l.b []) l.at l.need
