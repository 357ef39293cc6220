-- A page goes out of its frame, or comes into one.
use Rattle.spur_flat.specs.Pager.{brought_entry}
use Rattle.std.specs.Prelude.{ℕ, ◌≡◌, ◌≢◌, ◌+◌, ◌<◌, ◌≤◌, true, false, [], ◌∷◌, length, Some}
use Rattle.spur_addr.specs.Address.{entry_address_of, page_address, user_pages}
use Rattle.spur_addr.specs.PageEntry.{is_dirty, is_on_swap, is_valid, number_of, protection_of, swapped_of}
use Rattle.spur_snoop.specs.Protocol.{is_exclusive}
use Rattle.spur_bus.specs.Calls.{HasLine}
use Rattle.spur_frames.specs.Frames.{IsFrame, IsFree, holder_of, release_frame, take_frame}
use Rattle.spur_pager.specs.View.{View}
use Rattle.spur_pager.specs.Stand.{entry_in}
use Rattle.spur_pager.specs.Acts.{Loads, page_in, page_out}
use Rattle.spur_pager.specs.Room.{entry_room}
use Rattle.spur_pager.specs.Runs.{Runs}
use Rattle.spur_pager.specs.Served.{hold_of}
use Rattle.spur_pager.specs.Drops.{IsLeavingPage, IsUnheld}

-- Board b may put out the page of a frame: it is leaving, and no cache has a line of it.
pub record MayGoOut (w : View) (b frame page slot : ℕ) : Type 0 where
  pub within : b < length w.caches
  pub is_frame : IsFrame w.frames frame
  pub held : holder_of w.frames frame ≡ Some (page, slot)
  pub leaving : IsLeavingPage w page
  pub unheld : IsUnheld (hold_of w) (page_address page)

-- the entries of other pages are as they were
abbrev pub KeepsOthers : ℕ → View → View → Type 0
KeepsOthers page w v = (other : ℕ) → other < user_pages → other ≢ page → entry_in v other ≡ entry_in w other

-- It went out to its slot, and its frame is free.
pub record GoesOut (b frame page slot : ℕ) (w v : View) : Type 0 where
  pub runs : Runs b (page_out b page slot ∷ []) w v
  pub frames : v.frames ≡ release_frame w.frames frame
  pub room : w.room ≤ v.room + entry_room
  pub word : entry_in v page ≡ swapped_of slot (protection_of (entry_in w page))
  pub others : KeepsOthers page w v
  pub exclusive : HasLine v.caches b (entry_address_of (page_address page)) is_exclusive

-- Board b may bring in a page that is on swap, into a free frame, from the slot that its entry names.
pub record MayComeIn (w : View) (b frame page slot : ℕ) : Type 0 where
  pub within : b < length w.caches
  pub small : page < user_pages
  pub free : IsFree w.frames frame
  pub absent : is_valid (entry_in w page) ≡ false
  pub on_swap : is_on_swap (entry_in w page) ≡ true
  pub slot_is : number_of (entry_in w page) ≡ slot

-- It came in from its slot, and the frame holds it.
pub record ComesIn (b frame page slot : ℕ) (w v : View) : Type 0 where
  pub runs : Runs b (Loads frame ∷ page_in b page frame ∷ []) w v
  pub frames : v.frames ≡ take_frame w.frames frame page slot
  pub room : w.room ≤ v.room + entry_room
  pub word : entry_in v page ≡ brought_entry frame (entry_in w page)
  pub exclusive : HasLine v.caches b (entry_address_of (page_address page)) is_exclusive

-- The swap object failed: but for its counts of faults, of reads and of writes, all is as it was.
pub record HasSwapFailed (w v : View) : Type 0 where
  pub caches : v.caches ≡ w.caches
  pub memory : v.memory ≡ w.memory
  pub frames : v.frames ≡ w.frames
  pub pages : v.pages ≡ w.pages
  pub slots : v.slots ≡ w.slots
  pub history : v.history ≡ w.history
  pub room : v.room ≡ w.room
  pub ahead : v.ahead ≡ w.ahead
  pub rose : w.faults < v.faults

-- so it did on writing, which is done for a page that is dirty alone
pub record FailsToGoOut (page : ℕ) (w v : View) : Type 0 where
  pub failed : HasSwapFailed w v
  pub dirty : is_dirty (entry_in w page) ≡ true
