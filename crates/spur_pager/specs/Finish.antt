-- The leaving page is finished, and a frame is made free.
use Rattle.std.specs.Prelude.{ℕ, ◌≡◌, ◌+◌, ◌<◌, ◌≤◌, ◌++◌, true, Some, None}
use Rattle.spur_addr.specs.Address.{entry_address_of, page_address}
use Rattle.spur_addr.specs.PageEntry.{is_dirty, protection_of, swapped_of}
use Rattle.spur_snoop.specs.Protocol.{is_exclusive}
use Rattle.spur_bus.specs.Calls.{HasLine}
use Rattle.spur_frames.specs.Frames.{IsFree, IsTaken, least_free, release_frame}
use Rattle.spur_frames.specs.Clock.{page_of_frame}
use Rattle.spur_pager.specs.View.{View}
use Rattle.spur_pager.specs.Stand.{entry_in}
use Rattle.spur_pager.specs.Service.{finish_acts, flush_acts, free_service, gained, leaving_service, slot_in, outgoing_frame}
use Rattle.spur_pager.specs.Room.{clock_room, entry_room, free_room, page_line_count}
use Rattle.spur_pager.specs.Runs.{Runs}
use Rattle.spur_pager.specs.Served.{IsStillLeaving}
use Rattle.spur_pager.specs.Looks.{HasNoMoreLines, KeepsAbsent, KeepsDirty}

-- The page of the leaving frame is out, and the frame is free.
pub record Finishes (b frame : ℕ) (w v : View) : Type 0 where
  pub runs : Runs b (finish_acts b w.frames frame) w v
  pub frames : v.frames ≡ release_frame w.frames frame
  pub room : w.room ≤ v.room + (page_line_count w.caches (page_of_frame w.frames frame) + entry_room)
  pub word : entry_in v (page_of_frame w.frames frame) ≡ swapped_of (slot_in w.frames frame) (protection_of (entry_in w (page_of_frame w.frames frame)))
  pub absent : KeepsAbsent w v
  pub exclusive : HasLine v.caches b (entry_address_of (page_address (page_of_frame w.frames frame))) is_exclusive

-- Its lines are flushed, and it could not be written: it is still leaving.
pub record FailsToFinish (b frame : ℕ) (w v : View) : Type 0 where
  pub runs : Runs b (flush_acts w.frames frame) w v
  pub frames : v.frames ≡ w.frames
  pub room : w.room ≤ v.room + page_line_count w.caches (page_of_frame w.frames frame)
  pub none : page_line_count v.caches (page_of_frame w.frames frame) ≡ 0
  pub word : entry_in v (page_of_frame w.frames frame) ≡ entry_in w (page_of_frame w.frames frame)
  pub dirty : is_dirty (entry_in w (page_of_frame w.frames frame)) ≡ true
  pub rose : w.faults < v.faults

-- A page is leaving, which was leaving before or was chosen by the clock.
pub record HasLeaving (b : ℕ) (w v : View) (frame : ℕ) : Type 0 where
  pub runs : Runs b (leaving_service b w).acts w v
  pub frames : v.frames ≡ (leaving_service b w).frames
  pub is : frame ≡ outgoing_frame w
  pub leaving : v.frames.leaving ≡ Some frame
  pub taken : IsTaken v.frames frame
  pub room : w.room ≤ v.room + clock_room w w.frames.leaving
  pub absent : KeepsAbsent w v
  pub dirty : KeepsDirty w v
  pub lines : HasNoMoreLines w v

-- A frame is free: the least one.
pub record Frees (b : ℕ) (w v : View) (frame : ℕ) : Type 0 where
  pub runs : Runs b (free_service b w).acts w v
  pub frames : v.frames ≡ (free_service b w).frames
  pub is : frame ≡ gained b w
  pub least : least_free v.frames ≡ Some frame
  pub free : IsFree v.frames frame
  pub room : w.room ≤ v.room + free_room w (least_free w.frames)
  pub absent : KeepsAbsent w v

-- None was free, and the page that is leaving could not be written.
pub record FailsToFree (b : ℕ) (w v : View) : Type 0 where
  pub full : least_free w.frames ≡ None
  pub runs : Runs b ((leaving_service b w).acts ++ flush_acts w.frames (outgoing_frame w)) w v
  pub frames : v.frames ≡ (leaving_service b w).frames
  pub room : w.room ≤ v.room + free_room w (least_free w.frames)
  pub still : IsStillLeaving w v
  pub rose : w.faults < v.faults
