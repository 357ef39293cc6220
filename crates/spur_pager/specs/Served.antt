-- What serving a fault leaves.
use Rattle.std.specs.Prelude.{ℕ, ◌≡◌, ◌+◌, ◌<◌, ◌≤◌, ⊤, is_none, ◌&&◌, IsSome, Bool, true, false, List, [], ◌++◌, drop, length, Option, Some, None, Result, Ok, Err}
use Rattle.std.specs.List.{AllByRecursion}
use Rattle.spur_addr.specs.Address.{entry_address_of, page_of}
use Rattle.spur_addr.specs.PageEntry.{is_dirty, is_leaving, is_valid, number_of, protection_of, swapped_of, with_bit}
use Rattle.spur_flat.specs.declared.access.AccessKind.{AccessKind}
use Rattle.spur_flat.specs.declared.access.FaultKind.{FaultKind}
use Rattle.spur_flat.specs.declared.access.FaultKind.TheVariants as fault
use Rattle.spur_flat.specs.declared.entry.Entry.{Entry}
use Rattle.spur_flat.specs.declared.flat.Flat.{Flat}
use Rattle.spur_flat.specs.History.{own_entries}
use Rattle.spur_flat.specs.Pager.{word_of, brought_entry}
use Rattle.spur_snoop.specs.Protocol.{is_exclusive}
use Rattle.spur_bus.specs.Calls.{HasLine, line_count}
use Rattle.spur_frames.specs.Frames.{least_free}
use Rattle.spur_frames.specs.Clock.{page_of_frame}
use Rattle.spur_walk.specs.declared.step.Walked.TheVariants as walked
use Rattle.spur_walk.specs.Laws.{is_served, need_of}
use Rattle.spur_walk.specs.Plan.{access_plan}
use Rattle.spur_walk.specs.Steps.{answer_of}
use Rattle.spur_pager.specs.declared.fault.ServeFault.{ServeFault}
use Rattle.spur_pager.specs.declared.fault.ServeFault.TheVariants as serve
use Rattle.spur_flat.specs.Formed.{IsMade}
use Rattle.spur_pager.specs.View.{View}
use Rattle.spur_pager.specs.Stand.{CarriesOn, Stands, entry_in, flat_in}
use Rattle.spur_pager.specs.Counts.{Counts}
use Rattle.spur_pager.specs.Acts.{Hold, IsDone}
use Rattle.spur_pager.specs.Service.{service_of, gained, slot_in, outgoing_frame}
use Rattle.spur_pager.specs.Room.{page_line_count, room_for}

-- `advance` of board b for the access to the word at `at` answers this fault, as things stand
pub record HasFault (w : View) (b : ℕ) (kind : FaultKind) (at : ℕ) : Type 0 where
  pub access : AccessKind
  pub answers : answer_of b at (access_plan w.caches w.memory b at (need_of access)) ≡ walked.Fault kind
  pub served : is_served kind ≡ true

abbrev pub hold_of : View → Hold
hold_of w = record { caches = w.caches; memory = w.memory }

-- the entries that were appended
abbrev pub appended : View → View → List Entry
appended w v = drop (length w.history) v.history

-- The history before is the beginning of the history after, and the room that is left is what was not used: no more was
-- used than the fault needs. The entries are of board b and no accesses or faults, so that no board has more entries of
-- its own. What was done and appended is what these acts come to, and the frame table is the one after them, with the
-- same frames.
pub record Does (b : ℕ) (w : View) (kind : FaultKind) (at : ℕ) (answer : Result (Unit {0}) ServeFault) (v : View) : Type 0 where
  pub history : v.history ≡ w.history ++ appended w v
  pub room : v.room + length (appended w v) ≡ w.room
  pub used : length (appended w v) ≤ room_for w kind
  pub made : AllByRecursion (IsMade b (length w.caches)) (appended w v)
  pub own : (i : ℕ) → own_entries (appended w v) i ≡ []
  pub done : IsDone b (service_of b w kind at answer).acts (hold_of w) (appended w v) (hold_of v)
  pub frames : v.frames ≡ (service_of b w kind at answer).frames
  pub first : v.frames.first ≡ w.frames.first
  pub count : length v.frames.held ≡ length w.frames.held

-- whether a swap object tells its pages
abbrev pub tells : Option (List ℕ) → Bool
tells None = false
tells (Some words) = true

-- what does not change: the numbers of caches, of their lines and of the memory's words, the number of slots, and the
-- store's settings; and a swap object that tells its pages goes on telling
pub record Keeps (w v : View) : Type 0 where
  pub boards : length v.caches ≡ length w.caches
  pub lines : line_count v.caches ≡ line_count w.caches
  pub memory : length v.memory ≡ length w.memory
  pub slots : v.slots ≡ w.slots
  pub tells : tells v.pages ≡ tells w.pages
  pub ahead : v.ahead ≡ w.ahead

-- for all declared pages for which the state stood: the entries are carried to the state that stands, and it stands again
abbrev pub IsCarriedOn : View → View → Type 0
IsCarriedOn w v = (rest : Flat) → Stands rest w → CarriesOn rest w v (appended w v)

-- after Ok the page's entry is this word: the old one with a bit set, on swap in the slot that its frame had, or in the
-- frame that was the least free one
abbrev pub word_after : ℕ → View → FaultKind → ℕ → ℕ
word_after b w fault.Reference at = with_bit (entry_in w (page_of at)) 1 true
word_after b w fault.Dirty at = with_bit (entry_in w (page_of at)) 2 true
word_after b w fault.Leaving at = swapped_of (slot_in w.frames (outgoing_frame w)) (protection_of (entry_in w (page_of at)))
word_after b w fault.Missing at = brought_entry (gained b w) (entry_in w (page_of at))
word_after b w kind at = entry_in w (page_of at)

-- and its block is exclusive in the board's own cache. After a Leaving fault a frame is free.
pub record IsServed (b : ℕ) (w : View) (kind : FaultKind) (at : ℕ) (v : View) : Type 0 where
  pub word : entry_in v (page_of at) ≡ word_after b w kind at
  pub walk : word_of (flat_in v) at ≡ word_after b w kind at
  pub exclusive : HasLine v.caches b (entry_address_of at) is_exclusive
  pub free : kind ≡ fault.Leaving → IsSome (least_free v.frames)

-- After a fault of the swap on writing, no cache has a line of the page that was to go out. It is still valid, leaving and
-- dirty, and its frame is the leaving one.
pub record IsStillLeaving (w v : View) : Type 0 where
  pub flushed : page_line_count v.caches (page_of_frame w.frames (outgoing_frame w)) ≡ 0
  pub valid : is_valid (entry_in v (page_of_frame w.frames (outgoing_frame w))) ≡ true
  pub number : number_of (entry_in v (page_of_frame w.frames (outgoing_frame w))) ≡ outgoing_frame w
  pub leaving : is_leaving (entry_in v (page_of_frame w.frames (outgoing_frame w))) ≡ true
  pub dirty : is_dirty (entry_in v (page_of_frame w.frames (outgoing_frame w))) ≡ true
  pub frame : v.frames.leaving ≡ Some (outgoing_frame w)

-- after one on reading the page is on swap as it was, and the frame is free that it was to get
pub record IsStillOut (b : ℕ) (w : View) (at : ℕ) (v : View) : Type 0 where
  pub word : entry_in v (page_of at) ≡ entry_in w (page_of at)
  pub free : least_free v.frames ≡ Some (gained b w)

-- A fault of the swap comes only for these kinds of fault, and only where the count of faults rose. A page is written for
-- a missing one only where no frame was free.
abbrev pub MayFail : View → FaultKind → ServeFault → Type 0
MayFail w fault.Missing serve.SwapRead = ⊤
MayFail w fault.Missing serve.SwapWrite = least_free w.frames ≡ None
MayFail w fault.Leaving serve.SwapWrite = ⊤
MayFail w kind why = ⊥

abbrev pub LeavesFault : ℕ → View → FaultKind → ℕ → View → ServeFault → Type 0
LeavesFault b w kind at v serve.SwapWrite = IsStillLeaving w v
LeavesFault b w kind at v serve.SwapRead = IsStillOut b w at v

pub record HasFailed (b : ℕ) (w : View) (kind : FaultKind) (at : ℕ) (v : View) (why : ServeFault) : Type 0 where
  pub may : MayFail w kind why
  pub rose : w.faults < v.faults
  pub leaves : LeavesFault b w kind at v why

-- the page of a Missing fault is read once, unless the write before it failed; nothing else is read
abbrev pub has_read : FaultKind → Result (Unit {0}) ServeFault → Bool
has_read fault.Missing (Ok done) = true
has_read fault.Missing (Err serve.SwapRead) = true
has_read fault.Missing (Err serve.SwapWrite) = false
has_read kind answer = false

-- where no frame is free, the page that goes out is written exactly where it is dirty
abbrev pub writes_to_free : View → Bool
writes_to_free w = is_none (least_free w.frames) && is_dirty (entry_in w (page_of_frame w.frames (outgoing_frame w)))

-- so a frame is made free
abbrev pub CountsFreeing : View → View → Type 0
CountsFreeing w v = Counts false (writes_to_free w) w v

-- a page is written once where a dirty one is put out, and else none is
abbrev pub has_written : View → FaultKind → Bool
has_written w fault.Leaving = is_dirty (entry_in w (page_of_frame w.frames (outgoing_frame w)))
has_written w fault.Missing = writes_to_free w
has_written w kind = false

-- so the swap object was called, and no more often
abbrev pub CountsServing : View → FaultKind → Result (Unit {0}) ServeFault → View → Type 0
CountsServing w kind answer v = Counts (has_read kind answer) (has_written w kind) w v

-- the swap object is as it was for the kinds of fault that set one bit, and for a Leaving one where the page is not dirty
abbrev pub StaysFor : {B : Type 0} → View → FaultKind → B → B → Type 0
StaysFor w fault.Reference old new = new ≡ old
StaysFor w fault.Dirty old new = new ≡ old
StaysFor w fault.Leaving old new = is_dirty (entry_in w (page_of_frame w.frames (outgoing_frame w))) ≡ false → new ≡ old
StaysFor w kind old new = ⊤

-- after Ok the page is served, and after a fault of the swap it is not
abbrev pub Leaves : ℕ → View → FaultKind → ℕ → Result (Unit {0}) ServeFault → View → Type 0
Leaves b w kind at (Ok done) v = IsServed b w kind at v
Leaves b w kind at (Err why) v = HasFailed b w kind at v why

-- all of this
pub record ServesAs (b : ℕ) (w : View) (kind : FaultKind) (at : ℕ) (answer : Result (Unit {0}) ServeFault) (v : View) : Type 0 where
  pub does : Does b w kind at answer v
  pub carried : IsCarriedOn w v
  pub leaves : Leaves b w kind at answer v
  pub keeps : Keeps w v
