use Rattle.std.proofs.Common.{drop, length, ◌-◌, ◌≡◌, ◌+◌}
use Rattle.spur_flat.specs.Pager.{position_in}
use Rattle.spur_flat.proofs.pager.position.Given as goal

abbrev pub invariant-loop-place : goal.invariant-loop-place
invariant-loop-place l = position_in l.pages l.page ≡ l.place + position_in (drop l.place l.pages) l.page

abbrev pub decreases-loop-place : goal.decreases-loop-place
decreases-loop-place l = length l.pages - l.place
