-- What a board does alone, with its own cache and log: the events of an own step, and the causes for which an own turn
-- stops.
use Rattle.std.specs.Prelude.{◌≡◌, ◌≢◌, ℕ, zero, suc, ◌+◌, ◌≤◌, ◌<◌, true, false, List, length, Option, Some, None, IsSome}
use Rattle.spur_addr.specs.Address.{is_aligned}
use Rattle.spur_cache.specs.declared.line.Line.{Line}
use Rattle.spur_cache.specs.Lines.{found, word_in}
use Rattle.spur_flat.specs.declared.access.AccessKind.{AccessKind}
use Rattle.spur_flat.specs.declared.access.FaultKind.{FaultKind}
use Rattle.spur_flat.specs.declared.access.FaultKind.TheVariants as fault
use Rattle.spur_flat.specs.declared.entry.Entry.TheVariants as entry
use Rattle.spur_cpu.specs.declared.cpu.Want.TheVariants as want
use Rattle.spur_cpu.specs.Meaning.{Meaning, WantsAccess}
use Rattle.spur_walk.specs.declared.looked.Looked.TheVariants.{Denied, Hit}
use Rattle.spur_walk.specs.Look.{look_of}
use Rattle.spur_walk.specs.Laws.{done_entry, need_of}
use Rattle.spur_board.specs.declared.board.Board.{Board}
use Rattle.spur_board.specs.declared.turn.BusReason.{BusReason}
use Rattle.spur_board.specs.declared.turn.BusReason.TheVariants as reason
use Rattle.spur_board.specs.declared.turn.Turn.{Turn}
use Rattle.spur_board.specs.declared.turn.Turn.TheVariants as turn
use Rattle.spur_board.specs.Boards.{Asks, HasDone, HasFaulted, HasLogged, HasRan, IsGoing, IsSound, done_lines, done_value}

-- the fault of an access that the board's own cache tells: the address is not aligned, or the line's copy of the
-- protection denies the access
abbrev pub IsOwnFault : List (Option Line) → AccessKind → ℕ → FaultKind → Type 0
IsOwnFault lines kind at fault.Align = is_aligned at ≡ false
IsOwnFault lines kind at fault.Protection = (is_aligned at ≡ true) × (look_of (found lines at) (need_of kind) ≡ Denied)
IsOwnFault lines kind at other = ⊥

-- what leads to a board in the middle, and one more event after it
pub record OneMore {C : Type 0} (Before Event : Board C → Type 0) (mid : Board C) : Type 0 where
  pub before : Before mid
  pub event : Event mid

module _ {C S : Type 0} (m : Meaning S) (state : C → S) (spare : C → ℕ) where
  -- a local instruction, which is completed
  pub record LocalEvent (old new : Board C) : Type 0 where
    pub going : IsGoing m state spare old
    pub wants : m.wants (state old.cpu) ≡ want.Local
    pub ran : HasRan m state spare old new

  -- a board that has done an access that hits, where the word stands, and has logged it
  pub record HasHit (kind : AccessKind) (at value : ℕ) (old new : Board C) : Type 0 where
    pub logged : HasLogged old (done_entry kind old.number at (word_in (found old.cache at) at) value) new
    pub done : HasDone m state spare (record old { cache = done_lines kind old.cache at value; log = new.log })
        (done_value kind (word_in (found old.cache at) at) value) new

  -- a board that has logged the fault of its access, which has ended it
  pub record HasFallen (why : FaultKind) (kind : AccessKind) (at : ℕ) (old new : Board C) : Type 0 where
    pub logged : HasLogged old (entry.Fault old.number why kind at) new
    pub faulted : HasFaulted m state spare (record old { log = new.log }) why at new

  -- an aligned access that hits in the board's own cache: it is done and logged, in one event
  pub record HitEvent (old new : Board C) : Type 0 where
    pub kind : AccessKind
    pub at : ℕ
    pub value : ℕ
    pub asks : Asks m state spare old.number kind at value old
    pub left : length old.log.entries < 1024
    pub aligned : is_aligned at ≡ true
    pub hit : look_of (found old.cache at) (need_of kind) ≡ Hit
    pub does : HasHit kind at value old new

  -- an access that is not aligned, or is denied: its fault is logged, and ends the board
  pub record FaultEvent (old new : Board C) : Type 0 where
    pub kind : AccessKind
    pub at : ℕ
    pub value : ℕ
    pub why : FaultKind
    pub asks : Asks m state spare old.number kind at value old
    pub left : length old.log.entries < 1024
    pub cause : IsOwnFault old.cache kind at why
    pub falls : HasFallen why kind at old new

  -- what a board does at once, alone
  pub data OwnEvent (old new : Board C) : Type 0 where
    ByItself : LocalEvent old new → OwnEvent old new
    ByHit : HitEvent old new → OwnEvent old new
    ByFault : FaultEvent old new → OwnEvent old new

  -- so many events, one after another
  abbrev pub LedByEvents : ℕ → Board C → Board C → Type 0
  LedByEvents zero old new = new ≡ old
  LedByEvents (suc n) old new = (mid : Board C) × OneMore (LedByEvents n old) (λ x. OwnEvent x new) mid

  -- An own step of board i: finitely many events, from a board that is not torn. There may be no event at all.
  pub record IsOwnStep (i : ℕ) (old new : Board C) : Type 0 where
    pub number : old.number ≡ i
    pub sound : IsSound m state spare old
    pub count : ℕ
    pub follows : LedByEvents count old new

  -- its next instruction is an access, and its log is full
  pub record IsFull (b : Board C) : Type 0 where
    pub going : IsGoing m state spare b
    pub wants : WantsAccess (m.wants (state b.cpu))
    pub full : length b.log.entries ≡ 1024

  -- its next instruction is an aligned access, for which its log has room, and its cache neither has what that needs
  -- nor denies it
  pub record IsAway (b : Board C) : Type 0 where
    pub kind : AccessKind
    pub at : ℕ
    pub value : ℕ
    pub asks : Asks m state spare b.number kind at value b
    pub left : length b.log.entries < 1024
    pub aligned : is_aligned at ≡ true
    pub no_hit : look_of (found b.cache at) (need_of kind) ≢ Hit
    pub allowed : look_of (found b.cache at) (need_of kind) ≢ Denied

  -- why a board needs the bus
  abbrev pub Needs : BusReason → Board C → Type 0
  Needs reason.FullLog b = IsFull b
  Needs reason.Access b = IsAway b

  -- one event, or a reason why there is none
  abbrev pub HasEvent : Board C → Option BusReason → Board C → Type 0
  HasEvent old None new = OwnEvent old new
  HasEvent old (Some reason) new = (new ≡ old) × Needs reason old

  -- why an own turn of at most so many instructions is over
  abbrev pub IsCause : ℕ → Board C → Board C → Turn → Type 0
  IsCause at_most old new turn.Again = (new.ended ≡ None) × (new.retired ≡ old.retired + at_most)
  IsCause at_most old new (turn.NeedsBus reason) = Needs reason new × (new.retired < old.retired + at_most)
  IsCause at_most old new turn.Ended = IsSome new.ended

  -- an own turn of at most so many instructions: an own step of at most so many events, which is over for the cause of
  -- its answer
  pub record HasTurned (at_most : ℕ) (old : Board C) (result : Turn) (new : Board C) : Type 0 where
    pub step : IsOwnStep old.number old new
    pub few : step.count ≤ at_most
    pub cause : IsCause at_most old new result
