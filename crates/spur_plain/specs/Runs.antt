-- Paging is invisible, of a whole run: from a legal history in which each board has come somewhere, and for any processor's
-- meaning.
use Rattle.std.specs.Prelude.{ℕ, ◌≡◌, ◌^◌, ◌<◌, ◌⊎◌, List, [], Some, All}
use Rattle.spur_flat.specs.declared.flat.Flat.{Flat}
use Rattle.spur_flat.specs.declared.entry.Entry.{Entry}
use Rattle.spur_flat.specs.Clean.{AreClean}
use Rattle.spur_flat.specs.History.{IsLegal, own_entries}
use Rattle.spur_flat.specs.Untold.{IsLegalButValues}
use Rattle.spur_flat.specs.Validity.{IsValidFlat}
use Rattle.spur_cpu.specs.Meaning.{Meaning}
use Rattle.spur_cpu.specs.After.{Course, after, begun}
use Rattle.spur_plain.specs.PlainMemory.{PlainMemory, plain_answer}
use Rattle.spur_plain.specs.PlainHistory.{plain_entries}
use Rattle.spur_plain.specs.Invisible.{AreGlobal, IsInvisible, IsInvisibleButValues}
use Rattle.spur_plain.specs.Served.{ByAccesses, ByOneFault}
use Rattle.spur_plain.specs.Virtual.{virtual}

-- a board's own entries of what the plain machine knows are what it knows of the board's own entries
abbrev pub PlainOfOwn : Type 0
PlainOfOwn = (history : List Entry) (b : ℕ) → own_entries (plain_entries history) b ≡ plain_entries (own_entries history b)

module _ {S : Type 0} (m : Meaning S) where
  -- the one fault that ends a board is the plain machine's answer to the access that the board wants
  pub record ByPlainFault (M : PlainMemory) (segs : List ℕ) (budget : ℕ) (c d : Course S) (es : List Entry) (n : ℕ) : Type 0 where
    pub fault : ByOneFault m segs budget c d es n
    pub answer : plain_answer M fault.access fault.at ≡ Some fault.kind

  -- Board b comes to this course by its own entries of what the plain machine knows. These are its accesses that are done, and
  -- no fault has ended it; or its accesses that are done and one fault that has ended it, which is the plain machine's answer.
  pub record IsPlainBoard (M : PlainMemory) (history : List Entry) (b : ℕ) (segs : List ℕ) (budget : ℕ) (first : S) (d : Course S) (n : ℕ) : Type 0 where
    pub comes : after m segs budget (begun first) (own_entries (plain_entries history) b) n ≡ Some d
    pub way : ByAccesses m segs budget (begun first) d (own_entries history b) n
        ⊎ ByPlainFault M segs budget (begun first) d (own_entries history b) n

  -- so it is with each board that has come somewhere by its own entries of the history
  abbrev pub ArePlainBoards : PlainMemory → List Entry → Type 0
  ArePlainBoards M history = (b : ℕ) (segs : List ℕ) (budget : ℕ) (first : S) (d : Course S) (n : ℕ)
      → after m segs budget (begun first) (own_entries history b) n ≡ Some d
      → IsPlainBoard M history b segs budget first d n

  -- A run on plain memory: its history is one of the plain machine, and so is each board's way.
  pub record IsPlainRun (F : Flat) (history : List Entry) : Type 0 where
    pub memory : IsInvisible F history
    pub boards : ArePlainBoards (virtual F) history

  abbrev pub RunIsPlain : Type 0
  RunIsPlain = (F : Flat) (history : List Entry) → IsValidFlat F → AreClean F → AreGlobal (plain_entries history)
      → IsLegal F history → IsPlainRun F history

  -- the same, but for the values that were read
  pub record IsPlainRunButValues (F : Flat) (history : List Entry) : Type 0 where
    pub memory : IsInvisibleButValues F history
    pub boards : ArePlainBoards (virtual F) history

  abbrev pub RunIsPlainButValues : Type 0
  RunIsPlainButValues = (F : Flat) (history : List Entry) → IsValidFlat F → AreClean F → AreGlobal (plain_entries history)
      → IsLegalButValues F history → IsPlainRunButValues F history

  -- What is asked of addresses comes of the boards' programs, where a board with entries has come somewhere by them, with
  -- segment numbers of 8 bits.
  pub record HasCome (history : List Entry) (b : ℕ) : Type 0 where
    pub segs : List ℕ
    pub small : All (λ s. s < 2 ^ 8) segs
    pub budget : ℕ
    pub first : S
    pub course : Course S
    pub completed : ℕ
    pub comes : after m segs budget (begun first) (own_entries history b) completed ≡ Some course

  abbrev pub ProgramsAreGlobal : Type 0
  ProgramsAreGlobal = (history : List Entry)
      → ((b : ℕ) → (own_entries history b ≡ []) ⊎ HasCome history b) → AreGlobal (plain_entries history)
