use Rattle.std.proofs.Common.{◌≡◌, drop}
use Rattle.std.specs.List.{list_any}
use Rattle.spur_flat.specs.Pager.{has_frame}
use Rattle.spur_flat.proofs.flat.Flat.is_taken.Given as goal

abbrev pub invariant-loop-page : goal.invariant-loop-page
invariant-loop-page l = list_any (has_frame l.self l.frame) l.pages ≡ list_any (has_frame l.self l.frame) (drop l.page-index l.pages)
