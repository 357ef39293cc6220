-- Eviction ahead of need: what a step ahead comes to.
use Rattle.std.specs.Prelude.{ℕ, ◌≡◌, ◌+◌, ◌<◌, ◌≤◌, ◌&&◌, not, nat_lt, if◌then◌else◌, Bool, true, false, List, [], ◌∷◌, ◌++◌, filter, length, map, take, Option, Some, None}
use Rattle.std.specs.List.{AllByRecursion}
use Rattle.spur_addr.specs.Address.{page_address}
use Rattle.spur_addr.specs.PageEntry.{is_dirty}
use Rattle.spur_flat.specs.declared.entry.Entry.{Entry}
use Rattle.spur_flat.specs.declared.entry.Entry.TheVariants.{BlockFlush, ClearRef, Leave, PageOut}
use Rattle.spur_flat.specs.Formed.{IsMade}
use Rattle.spur_flat.specs.History.{own_entries}
use Rattle.spur_frames.specs.Frames.{Frames, least_free, release_frame}
use Rattle.spur_frames.specs.Clock.{page_of_frame}
use Rattle.spur_pager.specs.View.{View}
use Rattle.spur_pager.specs.Stand.{entry_in}
use Rattle.spur_pager.specs.Acts.{FlushesFirst, IsDone, flushes_from}
use Rattle.spur_pager.specs.Service.{Service, finish_acts, flush_acts, frame_held, no_service, turn_of, until_leaving}
use Rattle.spur_pager.specs.Room.{clock_room, entry_room, page_line_count}
use Rattle.spur_pager.specs.Runs.{Runs}
use Rattle.spur_pager.specs.Served.{IsStillLeaving, appended, hold_of}
use Rattle.spur_pager.specs.Reserve.{leaving_left}

-- whether anything is done ahead: lines are to be flushed ahead of need, and there is more than one data frame
abbrev pub goes_ahead : ℕ → Frames → Bool
goes_ahead ahead frames = nat_lt 0 ahead && nat_lt 1 (length frames.held)

-- whether the leaving page, of this frame, has more lines than are flushed in one step
abbrev pub has_more : View → ℕ → Bool
has_more w frame = nat_lt w.ahead (page_line_count w.caches (page_of_frame w.frames frame))

-- The leaving page, of this frame, by whether it has more lines, and whether it could be written. Where it has more, the
-- first are flushed. Else all are, and it goes out, or is still leaving.
abbrev pub leave_on : ℕ → View → ℕ → Bool → Bool → Service
leave_on b w frame true written = record {
  acts = FlushesFirst (page_of_frame w.frames frame) w.ahead ∷ [];
  frames = w.frames;
}
leave_on b w frame false true = record { acts = finish_acts b w.frames frame; frames = release_frame w.frames frame }
leave_on b w frame false false = record { acts = flush_acts w.frames frame; frames = w.frames }

-- by the leaving frame, and the free one with the least number: the leaving page leaves on; or the clock runs, where no
-- frame is free; or nothing is done
abbrev pub go_ahead : ℕ → View → Bool → Option ℕ → Option ℕ → Service
go_ahead b w written (Some frame) free = leave_on b w frame (has_more w frame) written
go_ahead b w written None None = until_leaving b w None
go_ahead b w written None (Some frame) = no_service w

-- what a step ahead comes to, by whether the page that goes out in it could be written
abbrev pub ahead_service : ℕ → View → Bool → Service
ahead_service b w written =
    if goes_ahead w.ahead w.frames then go_ahead b w written w.frames.leaving (least_free w.frames) else no_service w

-- the room that it needs: for the lines of the leaving page and its entry, or for the clock
abbrev pub room_by : View → Option ℕ → Option ℕ → ℕ
room_by w (Some frame) free = page_line_count w.caches (page_of_frame w.frames frame) + entry_room
room_by w None None = clock_room w None
room_by w None (Some frame) = 0

abbrev pub ahead_room : View → ℕ
ahead_room w = if goes_ahead w.ahead w.frames then room_by w w.frames.leaving (least_free w.frames) else 0

-- whether a page is written to swap: the leaving one goes out, and is dirty
abbrev pub writes_on : View → ℕ → Bool
writes_on w frame = not (has_more w frame) && is_dirty (entry_in w (page_of_frame w.frames frame))

abbrev pub writes_by : View → Option ℕ → Bool
writes_by w (Some frame) = writes_on w frame
writes_by w None = false

abbrev pub writes_ahead : View → Bool
writes_ahead w = goes_ahead w.ahead w.frames && writes_by w w.frames.leaving

-- an entry by which a page leaves: the flush of a block, a bit that the clock clears, the page that leaves, and the one
-- that goes out
abbrev pub is_of_leaving : Entry → Bool
is_of_leaving (BlockFlush board holder at) = true
is_of_leaving (ClearRef board at) = true
is_of_leaving (Leave board at) = true
is_of_leaving (PageOut board at) = true
is_of_leaving e = false

abbrev pub leaving_entries : List Entry → List Entry
leaving_entries entries = filter is_of_leaving entries

-- the leaving page's last one, where no more lines are left and it could be written
abbrev pub out_entries : ℕ → ℕ → Bool → Bool → List Entry
out_entries b page true written = []
out_entries b page false true = PageOut b (page_address page) ∷ []
out_entries b page false false = []

-- those of a step ahead: the flushes of the first lines of the leaving page, boards and lines ascending, and its last one;
-- or those of the clock
abbrev pub entries_by : ℕ → View → Bool → Option ℕ → Option ℕ → List Entry
entries_by b w written (Some frame) free =
    take w.ahead (flushes_from b 0 (page_of_frame w.frames frame) w.caches)
    ++ out_entries b (page_of_frame w.frames frame) (has_more w frame) written
entries_by b w written None None =
    map (λ (page : ℕ). ClearRef b (page_address page)) (turn_of w).cleared
    ++ Leave b (page_address (page_of_frame w.frames (frame_held (turn_of w).leaves))) ∷ []
entries_by b w written None (Some frame) = []

abbrev pub entries_ahead : ℕ → View → Bool → List Entry
entries_ahead b w written =
    if goes_ahead w.ahead w.frames then entries_by b w written w.frames.leaving (least_free w.frames) else []

-- A step ahead was done. Where the page could not be written, it is still leaving, and the count of faults rose.
pub record DoesAhead (b : ℕ) (w v : View) : Type 0 where
  pub written : Bool
  pub history : v.history ≡ w.history ++ appended w v
  pub room : v.room + length (appended w v) ≡ w.room
  pub used : length (appended w v) ≤ ahead_room w
  pub made : AllByRecursion (IsMade b (length w.caches)) (appended w v)
  pub own : (i : ℕ) → own_entries (appended w v) i ≡ []
  pub done : IsDone b (ahead_service b w written).acts (hold_of w) (appended w v) (hold_of v)
  pub leaving : leaving_entries (appended w v) ≡ entries_ahead b w written
  pub frames : v.frames ≡ (ahead_service b w written).frames
  pub first : v.frames.first ≡ w.frames.first
  pub count : length v.frames.held ≡ length w.frames.held
  pub rose : written ≡ false → w.faults < v.faults
  pub still : written ≡ false → IsStillLeaving w v

-- what may still be appended so that a page leaves falls by what was used
abbrev pub LeavesLess : View → View → Type 0
LeavesLess w v = leaving_left v + w.room ≤ leaving_left w + v.room

-- so it is of the leaving page, of this frame
pub record LeavesOn (b frame : ℕ) (w : View) (written : Bool) (v : View) : Type 0 where
  pub runs : Runs b (leave_on b w frame (has_more w frame) written).acts w v
  pub frames : v.frames ≡ (leave_on b w frame (has_more w frame) written).frames
  pub room : w.room ≤ v.room + (page_line_count w.caches (page_of_frame w.frames frame) + entry_room)
  pub rose : written ≡ false → w.faults < v.faults
  pub still : written ≡ false → IsStillLeaving w v
  pub less : LeavesLess w v

-- A step ahead needs no more room than what may be appended so that a page leaves.
abbrev pub AheadFits : Type 0
AheadFits = (w : View) → ahead_room w ≤ leaving_left w
