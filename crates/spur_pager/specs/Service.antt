-- What serving a fault comes to: the acts, and the frame table after them.
use Rattle.std.specs.Prelude.{ℕ, ◌&&◌, nat_lt, Bool, List, [], ◌∷◌, ◌++◌, map, Option, Some, None, Result, Ok, Err}
use Rattle.spur_addr.specs.Address.{page_of, user_pages}
use Rattle.spur_addr.specs.PageEntry.{is_referenced, number_of}
use Rattle.spur_flat.specs.declared.access.FaultKind.{FaultKind}
use Rattle.spur_flat.specs.declared.access.FaultKind.TheVariants as fault
use Rattle.spur_frames.specs.Frames.{Frames, holder_of, least_free, release_frame, take_frame}
use Rattle.spur_frames.specs.Clock.{Resident, Turn, clock}
use Rattle.spur_frames.specs.Clock as clock
use Rattle.spur_pager.specs.declared.fault.ServeFault.{ServeFault}
use Rattle.spur_pager.specs.declared.fault.ServeFault.TheVariants as serve
use Rattle.spur_pager.specs.View.{View}
use Rattle.spur_pager.specs.Stand.{entry_in}
use Rattle.spur_pager.specs.Acts.{Act, Flushes, Loads, clear_referenced, leave, page_in, page_out, set_dirty, set_referenced}

-- acts, and the frame table after them
pub record Service : Type 0 where
  pub acts : List Act
  pub frames : Frames

-- first these acts, then a service
abbrev pub acts_then : List Act → Service → Service
acts_then acts next = record next { acts = acts ++ next.acts }

-- the slot of the page that a frame holds
abbrev pub slot_held : Option (ℕ × ℕ) → ℕ
slot_held None = 0
slot_held (Some holder) = holder.1

abbrev pub slot_in : Frames → ℕ → ℕ
slot_in frames frame = slot_held (holder_of frames frame)

-- the bits that the clock looks at, as the state that stands has them: there are none of other pages than these
abbrev pub bits_in : View → ℕ → Bool
bits_in w page = nat_lt page user_pages && is_referenced (entry_in w page)

-- the turn of the clock
abbrev pub turn_of : View → Turn
turn_of w = clock w.frames (bits_in w)

-- the frame of a resident, and its page
abbrev pub frame_held : Option Resident → ℕ
frame_held None = 0
frame_held (Some r) = r.frame

-- the frame whose page goes out where no frame is free: the leaving one, or else the clock's choice
abbrev pub outgoing_by : Option ℕ → Option Resident → ℕ
outgoing_by (Some frame) chosen = frame
outgoing_by None chosen = frame_held chosen

abbrev pub outgoing_frame : View → ℕ
outgoing_frame w = outgoing_by w.frames.leaving (turn_of w).leaves

-- the clock: the bits that it clears, and the page that leaves
abbrev pub clock_acts : ℕ → Frames → Turn → List Act
clock_acts b frames turn = map (clear_referenced b) turn.cleared ++ leave b (clock.page_of_frame frames (frame_held turn.leaves)) ∷ []

-- what happens until a page is leaving, and the frame table then
abbrev pub until_leaving : ℕ → View → Option ℕ → Service
until_leaving b w (Some frame) = record { acts = []; frames = w.frames }
until_leaving b w None =
    record { acts = clock_acts b w.frames (turn_of w); frames = record w.frames { hand = (turn_of w).hand; leaving = Some (frame_held (turn_of w).leaves) } }

abbrev pub leaving_service : ℕ → View → Service
leaving_service b w = until_leaving b w w.frames.leaving

-- the leaving page, of this frame, is finished: its lines are flushed, and it goes out
abbrev pub flush_acts : Frames → ℕ → List Act
flush_acts frames frame = Flushes (clock.page_of_frame frames frame) ∷ []

abbrev pub finish_acts : ℕ → Frames → ℕ → List Act
finish_acts b frames frame = flush_acts frames frame ++ page_out b (clock.page_of_frame frames frame) (slot_in frames frame) ∷ []

-- a frame is free: one was, or else a page goes out
abbrev pub freeing : ℕ → View → Option ℕ → Service
freeing b w (Some frame) = record { acts = []; frames = w.frames }
freeing b w None = record {
  acts = (leaving_service b w).acts ++ finish_acts b w.frames (outgoing_frame w);
  frames = release_frame (leaving_service b w).frames (outgoing_frame w);
}

abbrev pub free_service : ℕ → View → Service
free_service b w = freeing b w (least_free w.frames)

-- the frame that is free with the least number, where one is
abbrev pub number_or_zero : Option ℕ → ℕ
number_or_zero None = 0
number_or_zero (Some n) = n

abbrev pub gained : ℕ → View → ℕ
gained b w = number_or_zero (least_free (free_service b w).frames)

-- the page comes in, from the slot that its entry names
abbrev pub bring_service : ℕ → View → ℕ → Service
bring_service b w page = record {
  acts = (free_service b w).acts ++ Loads (gained b w) ∷ page_in b page (gained b w) ∷ [];
  frames = take_frame (free_service b w).frames (gained b w) page (number_of (entry_in w page));
}

-- nothing happens
abbrev pub no_service : View → Service
no_service w = record { acts = []; frames = w.frames }

-- What serving a fault of an access to the word at `at` comes to, by its answer. After a fault of the swap on writing, the
-- lines are flushed, and the page is still leaving; after one on reading, a frame is free, and nothing was brought.
abbrev pub service_of : ℕ → View → FaultKind → ℕ → Result (Unit {0}) ServeFault → Service
service_of b w fault.Reference at answer = record { acts = set_referenced b (page_of at) ∷ []; frames = w.frames }
service_of b w fault.Dirty at answer = record { acts = set_dirty b (page_of at) ∷ []; frames = w.frames }
service_of b w fault.Leaving at (Ok done) = record { acts = finish_acts b w.frames (outgoing_frame w); frames = release_frame w.frames (outgoing_frame w) }
service_of b w fault.Leaving at (Err why) = record { acts = flush_acts w.frames (outgoing_frame w); frames = w.frames }
service_of b w fault.Missing at (Ok done) = bring_service b w (page_of at)
service_of b w fault.Missing at (Err serve.SwapRead) = free_service b w
service_of b w fault.Missing at (Err serve.SwapWrite) =
    record { acts = (leaving_service b w).acts ++ flush_acts w.frames (outgoing_frame w); frames = (leaving_service b w).frames }
service_of b w kind at answer = no_service w
