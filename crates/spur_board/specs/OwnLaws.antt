-- Laws of own steps.
use Rattle.std.specs.Prelude.{◌≡◌, ℕ, ◌+◌, ◌≤◌, ◌<◌, true, List, ◌++◌, Some, None}
use Rattle.std.specs.List.{AllByRecursion}
use Rattle.spur_flat.specs.declared.access.FaultKind.{FaultKind}
use Rattle.spur_flat.specs.declared.entry.Entry.{Entry}
use Rattle.spur_flat.specs.History.{is_own}
use Rattle.spur_bus.specs.Calls.{cache_tags}
use Rattle.spur_cpu.specs.Meaning.{Meaning}
use Rattle.spur_cpu.specs.After.{Course, IsLed}
use Rattle.spur_cpu.specs.Onward.{carry_instruction}
use Rattle.spur_board.specs.declared.board.Board.{Board}
use Rattle.spur_board.specs.declared.ending.Ending.TheVariants as ending
use Rattle.spur_board.specs.declared.turn.Turn.{Turn}
use Rattle.spur_board.specs.Boards.{IsSound, course_now}
use Rattle.spur_board.specs.Own.{HasTurned, IsCause, IsOwnStep, LedByEvents, OwnEvent}

module _ {C S : Type 0} (m : Meaning S) (state : C → S) (spare : C → ℕ) where
  -- each board that is not torn is an own step after itself
  abbrev pub StandingIsAStep : Type 0
  StandingIsAStep = (i : ℕ) (b : Board C) → b.number ≡ i → IsSound m state spare b → IsOwnStep m state spare i b b

  -- an event leaves a board not torn; with that it has completed at most its budget
  abbrev pub EventKeepsSound : Type 0
  EventKeepsSound = (old new : Board C)
      → IsSound m state spare old → OwnEvent m state spare old new → IsSound m state spare new

  -- one own step after another is one
  abbrev pub StepsChain : Type 0
  StepsChain = (i : ℕ) (old mid new : Board C)
      → IsOwnStep m state spare i old mid → IsOwnStep m state spare i mid new → IsOwnStep m state spare i old new

  -- number, segment registers and budget stay, and so does all of its lines but their words: the blocks, their states,
  -- and the copies of what the table says of their pages; its log grows
  pub record IsKept (old new : Board C) : Type 0 where
    pub number : new.number ≡ old.number
    pub segs : new.segs ≡ old.segs
    pub budget : new.budget ≡ old.budget
    pub tags : cache_tags new.cache ≡ cache_tags old.cache
    pub more : List Entry
    pub log : new.log.entries ≡ old.log.entries ++ more

  abbrev pub StepsKeep : Type 0
  StepsKeep = (i : ℕ) (old new : Board C) → IsOwnStep m state spare i old new → IsKept old new

  -- each event completes one instruction, but for a last one that is a fault
  pub record IsCounted (n : ℕ) (old new : Board C) : Type 0 where
    pub most : new.retired ≤ old.retired + n
    pub going : new.ended ≡ None → new.retired ≡ old.retired + n

  abbrev pub EventsCount : Type 0
  EventsCount = (n : ℕ) (old new : Board C) → LedByEvents m state spare n old new → IsCounted n old new

  -- a turn goes into a fault that ends its board only while it has instructions left
  abbrev pub FaultIsWithin : Type 0
  FaultIsWithin = (at_most : ℕ) (old new : Board C) (result : Turn) (kind : FaultKind) (at : ℕ)
      → HasTurned m state spare at_most old result new → old.ended ≡ None → new.ended ≡ Some (ending.Faulted kind at)
      → new.retired < old.retired + at_most

  -- a turn has one cause at most
  abbrev pub CauseIsOne : Type 0
  CauseIsOne = (at_most : ℕ) (old new : Board C) (result other : Turn)
      → IsCause m state spare at_most old new result → IsCause m state spare at_most old new other → result ≡ other

  -- An event is one whole instruction of the board's program, by the entries that it logs: none, or the one of its
  -- access.
  pub record IsInstruction (old new : Board C) : Type 0 where
    pub logged : List Entry
    pub log : new.log.entries ≡ old.log.entries ++ logged
    pub own : AllByRecursion (λ entry. is_own old.number entry ≡ true) logged
    pub carried : carry_instruction m old.segs old.budget (course_now m state old) logged ≡ Some (course_now m state new)

  abbrev pub EventIsAnInstruction : Type 0
  EventIsAnInstruction = (old new : Board C) → OwnEvent m state spare old new → IsInstruction old new

  -- So an own step leads the board's program on by what it logs: from any course, the entries that led to the old board
  -- and these lead to the new one.
  pub record LeadsOn (c : Course S) (es : List Entry) (old new : Board C) : Type 0 where
    pub logged : List Entry
    pub log : new.log.entries ≡ old.log.entries ++ logged
    pub own : AllByRecursion (λ entry. is_own old.number entry ≡ true) logged
    pub led : IsLed m old.segs old.budget c (es ++ logged) (course_now m state new)

  abbrev pub StepLeadsOn : Type 0
  StepLeadsOn = (i : ℕ) (c : Course S) (es : List Entry) (old new : Board C)
      → IsOwnStep m state spare i old new → IsLed m old.segs old.budget c es (course_now m state old) → LeadsOn c es old new
