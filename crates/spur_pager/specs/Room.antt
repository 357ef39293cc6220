-- The room in the history that serving a fault needs.
use Rattle.std.specs.Prelude.{ℕ, ◌+◌, ◌*◌, List, length, Option, Some, None}
use Rattle.spur_cache.specs.declared.line.Line.{Line}
use Rattle.spur_flat.specs.declared.access.FaultKind.{FaultKind}
use Rattle.spur_flat.specs.declared.access.FaultKind.TheVariants as fault
use Rattle.spur_frames.specs.Frames.{least_free}
use Rattle.spur_frames.specs.Clock.{page_of_frame}
use Rattle.spur_pager.specs.View.{View}
use Rattle.spur_pager.specs.Acts.{flushes_from}
use Rattle.spur_pager.specs.Service.{turn_of, outgoing_frame}

-- for one change of a page's entry: its entry of the history, and at most four of `advance_entry`
abbrev pub entry_room : ℕ
entry_room = 5

-- how many lines of a page there are, in all caches
abbrev pub page_line_count : List (List (Option Line)) → ℕ → ℕ
page_line_count caches page = length (flushes_from 0 0 page caches)

-- the page that goes out is finished: its lines are flushed, and its entry is changed
abbrev pub finish_room : View → ℕ
finish_room w = page_line_count w.caches (page_of_frame w.frames (outgoing_frame w)) + entry_room

-- before it, where none is leaving, the clock clears bits and has one page leave
abbrev pub clock_room : View → Option ℕ → ℕ
clock_room w (Some frame) = 0
clock_room w None = entry_room * (length (turn_of w).cleared + 1)

-- a frame is made free where none is
abbrev pub free_room : View → Option ℕ → ℕ
free_room w (Some frame) = 0
free_room w None = clock_room w w.frames.leaving + finish_room w

-- by the kind of the fault
abbrev pub room_for : View → FaultKind → ℕ
room_for w fault.Reference = entry_room
room_for w fault.Dirty = entry_room
room_for w fault.Leaving = finish_room w
room_for w fault.Missing = free_room w (least_free w.frames) + entry_room
room_for w kind = 0
