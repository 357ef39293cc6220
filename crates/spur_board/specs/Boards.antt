-- A board on its way, and what one instruction makes of it.
use Rattle.std.specs.Prelude.{◌≡◌, ◌≢◌, ℕ, ◌+◌, ◌≤◌, ◌<◌, ◌==◌, List, [], ◌∷◌, ◌++◌, length, replicate, Option, Some, None, if◌then◌else◌}
use Rattle.spur_addr.specs.Address.{global_of}
use Rattle.spur_cache.specs.declared.line.Line.{Line}
use Rattle.spur_cache.specs.Lines.{IsCache, with_word}
use Rattle.spur_flat.specs.declared.access.AccessKind.{AccessKind}
use Rattle.spur_flat.specs.declared.access.AccessKind.TheVariants as access
use Rattle.spur_flat.specs.declared.access.FaultKind.{FaultKind}
use Rattle.spur_flat.specs.declared.entry.Entry.{Entry}
use Rattle.spur_cpu.specs.declared.cpu.Want.{Want}
use Rattle.spur_cpu.specs.declared.cpu.Want.TheVariants.{Access, Ended}
use Rattle.spur_cpu.specs.declared.cpu.Answer.TheVariants.{Done, Faulted}
use Rattle.spur_cpu.specs.Meaning.{Meaning}
use Rattle.spur_cpu.specs.After.{Course, Faulty, Halted, Spent, Stop, carry_local}
use Rattle.spur_board.specs.declared.board.Board.{Board}
use Rattle.spur_board.specs.declared.ending.Ending.{Ending}
use Rattle.spur_board.specs.declared.ending.Ending.TheVariants as ending

-- what a board's ending is for its program: a swap that failed leaves the instruction standing, and ends no program
abbrev pub course_ending : Option Ending → Option Stop
course_ending None = None
course_ending (Some ending.Halted) = Some Halted
course_ending (Some (ending.Faulted kind at)) = Some (Faulty kind at)
course_ending (Some ending.Spent) = Some Spent
course_ending (Some ending.SwapFault) = None

-- the ending of a board that has completed so many instructions of its budget: it has halted where its processor wants
-- nothing more; else the instruction that meets the budget spends it
abbrev pub ended_at : Want → ℕ → ℕ → Option Ending
ended_at Ended budget retired = Some ending.Halted
ended_at other budget retired = if retired == budget then Some ending.Spent else None

-- the board's own lines after an access that is done: a store writes its value, and a test-and-set writes 1
abbrev pub done_lines : AccessKind → List (Option Line) → ℕ → ℕ → List (Option Line)
done_lines access.Load lines at value = lines
done_lines access.Store lines at value = with_word lines at value
done_lines access.Tas lines at value = with_word lines at 1

-- and the word that its processor is answered: the one that was read, or a store's own
abbrev pub done_value : AccessKind → ℕ → ℕ → ℕ
done_value access.Load word value = word
done_value access.Store word value = value
done_value access.Tas word value = word

-- a board's log has this entry more, at its end
pub record HasLogged {C : Type 0} (old : Board C) (e : Entry) (new : Board C) : Type 0 where
  pub entries : new.log.entries ≡ old.log.entries ++ e ∷ []
  pub room : new.log.room + 1 ≡ old.log.room

-- a new board: it has its number, its processor, its segment registers and its budget, so many empty cache lines, and
-- room for 1024 entries in an empty log; it has completed nothing, and has no ending
pub record IsNew {C : Type 0} (n : ℕ) (processor : C) (registers : List ℕ) (lines most : ℕ) (new : Board C) : Type 0 where
  pub number : new.number ≡ n
  pub cache : new.cache ≡ replicate lines None
  pub cpu : new.cpu ≡ processor
  pub segs : new.segs ≡ registers
  pub log : new.log.entries ≡ []
  pub log_room : 1024 ≤ new.log.room
  pub retired : new.retired ≡ 0
  pub budget : new.budget ≡ most
  pub ended : new.ended ≡ None

-- the boards with processors of a type C, which are in states of S
module _ {C S : Type 0} (m : Meaning S) (state : C → S) where
  -- where a board's program is on its way
  abbrev pub course_now : Board C → Course S
  course_now b = record { cpu = state b.cpu; retired = b.retired; ending = course_ending b.ended }

  -- a board that has completed one more instruction
  abbrev pub retired : Board C → Board C
  retired b = record b { retired = b.retired + 1; ended = ended_at (m.wants (state b.cpu)) b.budget (b.retired + 1) }

  -- a local instruction carries the board's program on from where it was to where it is
  abbrev pub CarriesLocally : Board C → Board C → Type 0
  CarriesLocally old new = carry_local m old.segs old.budget (course_now old) ≡ Some (course_now new)

  -- and with so much spare room for shown values in a processor
  module _ (spare : C → ℕ) where
    -- a board that may take an instruction: its processor wants one, it has not met its budget, and it has room for the
    -- values that it may still show
    pub record IsGoing (b : Board C) : Type 0 where
      pub not_ended : b.ended ≡ None
      pub running : m.wants (state b.cpu) ≢ Ended
      pub left : b.retired < b.budget
      pub room : b.budget ≤ b.retired + spare b.cpu

    -- A board that is not torn: its log has at most 1024 entries and room for so many, its processor has room for the
    -- values of the instructions that are left of its budget, its lines stand on their places, and it has completed no
    -- more instructions than its budget. Where it has no ending, some of its budget is left and its processor wants
    -- something.
    pub record IsSound (b : Board C) : Type 0 where
      pub few : length b.log.entries ≤ 1024
      pub log_room : 1024 ≤ length b.log.entries + b.log.room
      pub room : b.budget ≤ b.retired + spare b.cpu
      pub lines : IsCache b.cache
      pub most : b.retired ≤ b.budget
      pub left : b.ended ≡ None → b.retired < b.budget
      pub running : b.ended ≡ None → m.wants (state b.cpu) ≢ Ended

    -- all of a board but its processor, its count and its ending is as it was, and the processor still has room for the
    -- values that it may show
    pub record Stays (old new : Board C) : Type 0 where
      pub is : new ≡ record old { cpu = new.cpu; retired = new.retired; ended = new.ended }
      pub room : new.budget ≤ new.retired + spare new.cpu

    -- board b wants this access, at this global address, and may take it
    pub record Asks (b : ℕ) (kind : AccessKind) (at value : ℕ) (x : Board C) : Type 0 where
      pub number : x.number ≡ b
      pub going : IsGoing x
      pub va : ℕ
      pub wants : m.wants (state x.cpu) ≡ Access kind va value
      pub at_is : at ≡ global_of x.segs va

    -- a board that has completed an instruction without an access
    pub record HasRan (old new : Board C) : Type 0 where
      pub stays : Stays old new
      pub cpu : state new.cpu ≡ m.local (state old.cpu)
      pub retired : new.retired ≡ old.retired + 1
      pub ended : new.ended ≡ ended_at (m.wants (m.local (state old.cpu))) old.budget (old.retired + 1)

    -- a board that has completed the instruction of an access
    pub record HasDone (old : Board C) (value : ℕ) (new : Board C) : Type 0 where
      pub stays : Stays old new
      pub cpu : state new.cpu ≡ m.answer (state old.cpu) (Done value)
      pub retired : new.retired ≡ old.retired + 1
      pub ended : new.ended ≡ ended_at (m.wants (m.answer (state old.cpu) (Done value))) old.budget (old.retired + 1)

    -- a board that a fault has ended
    pub record HasFaulted (old : Board C) (kind : FaultKind) (at : ℕ) (new : Board C) : Type 0 where
      pub stays : Stays old new
      pub cpu : state new.cpu ≡ m.answer (state old.cpu) (Faulted kind)
      pub retired : new.retired ≡ old.retired
      pub ended : new.ended ≡ Some (ending.Faulted kind at)
