-- A board carried on: to its next access within its budget, and by one whole instruction.
use Rattle.std.specs.Prelude.{◌≡◌, ℕ, zero, suc, ◌-◌, ◌||◌, Bool, false, List, [], ◌∷◌, Option, Some, None, if◌then◌else◌, option_and_then}
use Rattle.spur_flat.specs.declared.entry.Entry.{Entry}
use Rattle.spur_flat.specs.declared.entry.Entry.TheVariants.{Fault}
use Rattle.spur_cpu.specs.Meaning.{Meaning, is_ending}
use Rattle.spur_cpu.specs.After.{Course, after, carry_entry, carry_local, is_done, retire, wants_local}

abbrev pub is_ending_fault : Entry → Bool
is_ending_fault (Fault board kind access at) = is_ending kind
is_ending_fault _ = false

-- an entry answers its access where the access is done, or where its fault ends the board; after any other fault the
-- access is tried again
abbrev pub is_answer : Entry → Bool
is_answer e = is_done e || is_ending_fault e

module _ {S : Type 0} (m : Meaning S) (segs : List ℕ) (budget : ℕ) where
  -- a board carried on by its local instructions alone, so many at most
  abbrev pub carry_locals : ℕ → Course S → Course S
  carry_locals zero c = c
  carry_locals (suc n) c = if wants_local m segs budget c then carry_locals n (retire m segs budget c (m.local c.cpu)) else c

  -- a board carried on to its next access, within what is left of its budget; or to its ending, where that comes before
  abbrev pub carry_to_access : Course S → Course S
  carry_to_access c = carry_locals (budget - c.retired) c

  -- the instruction of an access by its entries: faults after which it is tried again, and last its answer
  abbrev pub carry_tries : Course S → Entry → List Entry → Option (Course S)
  carry_tries c e [] = if is_answer e then carry_entry m segs budget c e else None
  carry_tries c e (f ∷ fs) = if is_answer e then None else option_and_then (λ d. carry_tries d f fs) (carry_entry m segs budget c e)

  -- one whole instruction by its entries: a local one has none
  abbrev pub carry_instruction : Course S → List Entry → Option (Course S)
  carry_instruction c [] = carry_local m segs budget c
  carry_instruction c (e ∷ es) = carry_tries c e es

  -- entries fit a board where they are the next ones of its program: for some number of instructions they carry it on
  pub record EntriesFit (c : Course S) (es : List Entry) : Type 0 where
    pub completed : ℕ
    pub course : Course S
    pub leads : after m segs budget c es completed ≡ Some course
