-- Laws of a board that is carried on, over any processor's meaning.
use Rattle.std.specs.Prelude.{◌≡◌, ◌⊎◌, ◌↔◌, ℕ, suc, ◌+◌, false, List, [], ◌∷◌, ◌++◌, Some, None}
use Rattle.spur_flat.specs.declared.access.FaultKind.{FaultKind}
use Rattle.spur_flat.specs.declared.entry.Entry.{Entry}
use Rattle.spur_cpu.specs.Meaning.{Meaning}
use Rattle.spur_cpu.specs.After.{Course, Faulty, HasBudgetLeft, IsLed, after, carry_entry, wants_local}
use Rattle.spur_cpu.specs.Onward.{EntriesFit, carry_instruction, carry_to_access}

-- an ending fault stopped the board, and nothing was completed
pub record IsStopped {S : Type 0} (c d : Course S) : Type 0 where
  pub kind : FaultKind
  pub at : ℕ
  pub ending : d.ending ≡ Some (Faulty kind at)
  pub completed : d.retired ≡ c.retired

-- a board without an ending has completed one instruction more, or an ending fault stopped it
pub record IsOneOn {S : Type 0} (c d : Course S) : Type 0 where
  pub going : c.ending ≡ None
  pub way : (d.retired ≡ c.retired + 1) ⊎ IsStopped c d

module _ {S : Type 0} (m : Meaning S) where
  -- at its next access a board wants no local instruction
  abbrev pub WantsNoLocal : Type 0
  WantsNoLocal = (segs : List ℕ) (budget : ℕ) (c : Course S)
      → HasBudgetLeft budget c → wants_local m segs budget (carry_to_access m segs budget c) ≡ false

  -- it is led there by the same entries
  abbrev pub ToAccessLeadsOn : Type 0
  ToAccessLeadsOn = (segs : List ℕ) (budget : ℕ) (c d : Course S) (es : List Entry)
      → IsLed m segs budget c es d → IsLed m segs budget c es (carry_to_access m segs budget d)

  -- the first entry carries the board on from its next access, and the others fit where it leads
  pub record NextFits (segs : List ℕ) (budget : ℕ) (c : Course S) (e : Entry) (es : List Entry) : Type 0 where
    pub course : Course S
    pub carried : carry_entry m segs budget (carry_to_access m segs budget c) e ≡ Some course
    pub fits : EntriesFit m segs budget course es

  -- entries fit a board exactly where the next one does so
  abbrev pub FitByTheNext : Type 0
  FitByTheNext = (segs : List ℕ) (budget : ℕ) (c : Course S) (e : Entry) (es : List Entry)
      → HasBudgetLeft budget c → EntriesFit m segs budget c (e ∷ es) ↔ NextFits segs budget c e es

  -- and the empty list fits each board
  abbrev pub EmptyFits : Type 0
  EmptyFits = (segs : List ℕ) (budget : ℕ) (c : Course S) → EntriesFit m segs budget c []

  -- a board that is carried to its next access, by an entry, or by an instruction still has some of its budget left
  pub record BudgetStaysLeft : Type 0 where
    pub access : (segs : List ℕ) (budget : ℕ) (c : Course S)
        → HasBudgetLeft budget c → HasBudgetLeft budget (carry_to_access m segs budget c)
    pub entry : (segs : List ℕ) (budget : ℕ) (c d : Course S) (e : Entry)
        → HasBudgetLeft budget c → carry_entry m segs budget c e ≡ Some d → HasBudgetLeft budget d
    pub instruction : (segs : List ℕ) (budget : ℕ) (c d : Course S) (es : List Entry)
        → HasBudgetLeft budget c → carry_instruction m segs budget c es ≡ Some d → HasBudgetLeft budget d

  -- one whole instruction leads on by its entries
  abbrev pub InstructionLeadsOn : Type 0
  InstructionLeadsOn = (segs : List ℕ) (budget : ℕ) (c d f : Course S) (es fs : List Entry)
      → IsLed m segs budget c es d → carry_instruction m segs budget d fs ≡ Some f → IsLed m segs budget c (es ++ fs) f

  -- and is one
  abbrev pub InstructionIsOne : Type 0
  InstructionIsOne = (segs : List ℕ) (budget : ℕ) (c d : Course S) (es : List Entry)
      → carry_instruction m segs budget c es ≡ Some d → IsOneOn c d

  -- a whole instruction by the first entries, and so many more by the rest
  pub record OneComesFirst (segs : List ℕ) (budget : ℕ) (c d : Course S) (es : List Entry) (n : ℕ) : Type 0 where
    pub first : List Entry
    pub rest : List Entry
    pub course : Course S
    pub entries : es ≡ first ++ rest
    pub carried : carry_instruction m segs budget c first ≡ Some course
    pub completed : course.retired ≡ c.retired + 1
    pub follows : after m segs budget course rest n ≡ Some d

  -- a board completes one instruction and so many more exactly where a whole one comes first
  abbrev pub MadeOfInstructions : Type 0
  MadeOfInstructions = (segs : List ℕ) (budget : ℕ) (c d : Course S) (es : List Entry) (n : ℕ)
      → (after m segs budget c es (suc n) ≡ Some d) ↔ OneComesFirst segs budget c d es n

  -- a board that completes none stands where it was, or the instruction of these entries has stopped it
  abbrev pub NothingCompleted : Type 0
  NothingCompleted = (segs : List ℕ) (budget : ℕ) (c d : Course S) (es : List Entry)
      → after m segs budget c es 0 ≡ Some d → (d ≡ c) ⊎ (carry_instruction m segs budget c es ≡ Some d)
