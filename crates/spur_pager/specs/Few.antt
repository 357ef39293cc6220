-- What a fault that was served, and a step of the walk, leave few of.
use Rattle.std.specs.Prelude.{ℕ, ◌≡◌, ◌<◌, ◌≤◌, ◌&&◌, not, false, List, [], get_or, Option}
use Rattle.spur_addr.specs.PageEntry.{is_leaving, is_valid}
use Rattle.spur_cache.specs.declared.line.Line.{Line}
use Rattle.spur_snoop.specs.declared.Need.{Need}
use Rattle.spur_flat.specs.declared.access.FaultKind.{FaultKind}
use Rattle.spur_flat.specs.Pager.{word_of}
use Rattle.spur_walk.specs.Bounds.{fills_left, steps_left}
use Rattle.spur_walk.specs.Brought.{BringsStaying}
use Rattle.spur_walk.specs.Laws.{need_of}
use Rattle.spur_walk.specs.Tables.{logical_flat}
use Rattle.spur_pager.specs.View.{View}
use Rattle.spur_addr.specs.Address.{page_address, user_pages}
use Rattle.spur_pager.specs.Room.{page_line_count}
use Rattle.spur_pager.specs.Served.{HasFault, IsServed}

-- at most two steps towards the access, and not more fills and claims of its own than before
pub record LeavesFew (w v : View) (b at : ℕ) (need : Need) : Type 0 where
  pub steps : steps_left (get_or v.caches b []) at need ≤ 2
  pub fills : fills_left (get_or v.caches b []) at need ≤ fills_left (get_or w.caches b []) at need

-- after a fault of it was served
abbrev pub ServedLeavesFew : Type 0
ServedLeavesFew = (w v : View) (b at : ℕ) (kind : FaultKind) (f : HasFault w b kind at) → IsServed b w kind at v
    → LeavesFew w v b at (need_of f.access)

-- of a page that is leaving, or not valid, there are not more lines after a step than before it
abbrev pub LeavingLinesStayFew : Type 0
LeavingLinesStayFew = (caches after : List (List (Option Line))) (memory : List ℕ) (page : ℕ) → page < user_pages
    → BringsStaying caches memory after
    → (is_valid (word_of (logical_flat caches memory) (page_address page))
    && not (is_leaving (word_of (logical_flat caches memory) (page_address page)))) ≡ false
    → page_line_count after page ≤ page_line_count caches page
