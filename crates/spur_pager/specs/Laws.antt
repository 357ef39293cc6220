-- Laws of the pager: how much room in the history serving a fault may need.
use Rattle.std.specs.Prelude.{ℕ, ◌+◌, ◌*◌, ◌≤◌, length}
use Rattle.spur_flat.specs.declared.access.FaultKind.{FaultKind}
use Rattle.spur_pager.specs.Room.{entry_room, page_line_count, room_for}
use Rattle.spur_pager.specs.Stand.{IsServable}
use Rattle.spur_pager.specs.View.{View}

-- a cache has at most 128 lines of a page, one for each block of it
abbrev pub PageLinesAreFew : Type 0
PageLinesAreFew = (w : View) (page : ℕ) → IsServable w → page_line_count w.caches page ≤ 128 * length w.caches

-- The clock clears at most as many bits as there are frames. Then one page leaves, goes out, of which all lines are flushed,
-- and one comes in.
abbrev pub RoomIsBounded : Type 0
RoomIsBounded = (w : View) (kind : FaultKind) → IsServable w → room_for w kind ≤ entry_room * (length w.frames.held + 3) + 128 * length w.caches
