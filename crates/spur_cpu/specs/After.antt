-- A board's state after its program has used a list of its own entries and completed a number of instructions: one
-- definition over any processor's meaning.
use Rattle.std.specs.Prelude.{◌≡◌, ◌<◌, ℕ, zero, suc, ◌+◌, ◌==◌, ◌&&◌, Bool, true, false, List, [], ◌∷◌, Option, Some, None, if◌then◌else◌, option_and_then}
use Rattle.spur_addr.specs.Address.{global_of}
use Rattle.spur_flat.specs.declared.access.AccessKind.{AccessKind}
use Rattle.spur_flat.specs.declared.access.AccessKind.TheVariants as access
use Rattle.spur_flat.specs.declared.access.FaultKind.{FaultKind}
use Rattle.spur_flat.specs.declared.entry.Entry.{Entry}
use Rattle.spur_flat.specs.declared.entry.Entry.TheVariants.{Load, Store, Tas, Fault}
use Rattle.spur_cpu.specs.declared.cpu.Want.{Want}
use Rattle.spur_cpu.specs.declared.cpu.Want.TheVariants.{Local, Access, Ended}
use Rattle.spur_cpu.specs.declared.cpu.Answer.TheVariants.{Done, Faulted}
use Rattle.spur_cpu.specs.Meaning.{Meaning, is_ending}

-- why a board has ended
pub data Stop : Type 0 where
  Halted : Stop
  Faulty : (kind : FaultKind) (at : ℕ) → Stop
  Spent : Stop

-- a board on its way: its processor's state, how many instructions it has completed, and its ending if it has one
pub record Course (S : Type 0) : Type 0 where
  pub cpu : S
  pub retired : ℕ
  pub ending : Option Stop

-- a board at its beginning
abbrev pub begun : {S : Type 0} → S → Course S
begun s = record { cpu = s; retired = 0; ending = None }

-- a board without an ending has some of its budget left
abbrev pub HasBudgetLeft : {S : Type 0} → ℕ → Course S → Type 0
HasBudgetLeft budget c = c.ending ≡ None → c.retired < budget

abbrev pub same_access : AccessKind → AccessKind → Bool
same_access access.Load access.Load = true
same_access access.Store access.Store = true
same_access access.Tas access.Tas = true
same_access a b = false

-- an entry of an access that is done completes its instruction, and no other entry does
abbrev pub is_done : Entry → Bool
is_done (Load board at value) = true
is_done (Store board at value) = true
is_done (Tas board at old) = true
is_done _ = false

-- the ending of a board that has completed an instruction: a processor that wants nothing more has halted; else the
-- instruction that meets the budget spends it
abbrev pub ending_at : Want → ℕ → ℕ → Option Stop
ending_at Ended budget retired = Some Halted
ending_at other budget retired = if retired == budget then Some Spent else None

module _ {S : Type 0} (m : Meaning S) (segs : List ℕ) (budget : ℕ) where
  -- one more instruction is completed, with this state
  abbrev pub retire : Course S → S → Course S
  retire c cpu = record { cpu = cpu; retired = c.retired + 1; ending = ending_at (m.wants cpu) budget (c.retired + 1) }

  -- a fault ends the board, and completes nothing
  abbrev pub stop : Course S → FaultKind → ℕ → Course S
  stop c kind at = record c { cpu = m.answer c.cpu (Faulted kind); ending = Some (Faulty kind at) }

  abbrev pub is_local : Want → Option Stop → Bool
  is_local Local None = true
  is_local other ending = false

  abbrev pub wants_local : Course S → Bool
  wants_local c = is_local (m.wants c.cpu) c.ending

  -- a local instruction, where the board has not ended and wants one
  abbrev pub carry_local : Course S → Option (Course S)
  carry_local c = if wants_local c then Some (retire c (m.local c.cpu)) else None

  -- the entry of an access: it has the access's kind, its global address and, for a store, its value; a fault that
  -- does not end the board leaves the instruction standing. The entries of the bus and of the pager answer no access
  abbrev pub carry_access : Course S → AccessKind → ℕ → ℕ → Entry → Option (Course S)
  carry_access c kind at value (Load board a v) =
      if same_access kind access.Load && a == at then Some (retire c (m.answer c.cpu (Done v))) else None
  carry_access c kind at value (Store board a v) =
      if same_access kind access.Store && a == at && v == value then Some (retire c (m.answer c.cpu (Done v))) else None
  carry_access c kind at value (Tas board a v) =
      if same_access kind access.Tas && a == at then Some (retire c (m.answer c.cpu (Done v))) else None
  carry_access c kind at value (Fault board k w a) =
      if same_access kind w && a == at then (if is_ending k then Some (stop c k a) else Some c) else None
  carry_access c kind at value _ = None

  abbrev pub carry_want : Course S → Want → Option Stop → Entry → Option (Course S)
  carry_want c (Access kind va value) None e = carry_access c kind (global_of segs va) value e
  carry_want c want ending e = None

  -- an entry, where the board has not ended and wants this access
  abbrev pub carry_entry : Course S → Entry → Option (Course S)
  carry_entry c e = carry_want c (m.wants c.cpu) c.ending e

  -- the board after all these entries are used and so many instructions are completed; none where they do not fit
  abbrev pub after : Course S → List Entry → ℕ → Option (Course S)
  after c [] zero = Some c
  after c [] (suc n) = option_and_then (λ d. after d [] n) (carry_local c)
  after c (e ∷ es) zero = if is_done e then None else option_and_then (λ d. after d es zero) (carry_entry c e)
  after c (e ∷ es) (suc n) =
      if wants_local c then option_and_then (λ d. after d (e ∷ es) n) (carry_local c)
      else option_and_then (λ d. if is_done e then after d es n else after d es (suc n)) (carry_entry c e)

  -- these entries lead from one course to another, by the instructions that the other has completed
  abbrev pub IsLed : Course S → List Entry → Course S → Type 0
  IsLed c es d = after c es d.retired ≡ Some d
