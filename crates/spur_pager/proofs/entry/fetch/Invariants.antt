use Rattle.std.proofs.Common.{[], ◌≡◌, ◌<◌, get_or, length, map, true}
use Rattle.spur_addr.specs.PageEntry.{is_valid}
use Rattle.spur_walk.specs.Bounds.{page_steps_left}
use Rattle.spur_walk.specs.Tables.{logical_flat, root_at}
use Rattle.spur_pager.specs.Fetch.{Went}
use Rattle.spur_cache.specs.Lens.{OnlyLines}
use Rattle.spur_pager.proofs.entry.fetch.Given as goal

abbrev pub invariant-loop-entry : goal.invariant-loop-entry
invariant-loop-entry g l = record {
  own : l.b < length l.boards;
  root : is_valid (root_at (logical_flat (map g.T.HasCache.lens.lines_of l.boards) l.phys) l.page) ≡ true;
  went : Went l.b l.page (record { caches = map g.T.HasCache.lens.lines_of l.fn.boards; memory = l.fn.phys }) l.fn.history (record { caches = map g.T.HasCache.lens.lines_of l.boards; memory = l.phys }) l.history;
  lens : OnlyLines g.T.HasCache.lens l.fn.boards l.boards;
}

-- each step leaves fewer
abbrev pub decreases-loop-entry : goal.decreases-loop-entry
decreases-loop-entry g l = page_steps_left (get_or (map g.T.HasCache.lens.lines_of l.boards) l.b []) l.page
