-- What a processor means: a state of its own, what is read of that state, what it wants, and the states after a local
-- instruction and after an answer.
use Rattle.std.specs.Prelude.{◌≡◌, ◌≢◌, ℕ, Bool, true, false, List}
use Rattle.spur_flat.specs.declared.access.FaultKind.{FaultKind}
use Rattle.spur_flat.specs.declared.access.FaultKind.TheVariants.{Align, Unmapped, Missing, Leaving, Protection, Reference, Dirty}
use Rattle.spur_cpu.specs.declared.cpu.Want.{Want}
use Rattle.spur_cpu.specs.declared.cpu.Want.TheVariants.{Local, Access, Ended}
use Rattle.spur_cpu.specs.declared.cpu.Answer.{Answer}
use Rattle.spur_cpu.specs.declared.cpu.Answer.TheVariants.{Done, Faulted}

-- what a state wants, whether its next local instruction shows a value, the state after that instruction and after an
-- answer; and what is read of a state: the word of a register, the place, and the values that were shown
pub record Meaning (S : Type 0) : Type 0 where
  pub wants : S → Want
  pub shows : S → Bool
  pub local : S → S
  pub answer : S → Answer → S
  pub register : S → ℕ → ℕ
  pub place : S → ℕ
  pub shown : S → List ℕ

-- a fault that ends its board; the others leave the instruction standing
abbrev pub is_ending : FaultKind → Bool
is_ending Align = true
is_ending Unmapped = true
is_ending Missing = false
is_ending Leaving = false
is_ending Protection = true
is_ending Reference = false
is_ending Dirty = false

-- a processor wants an access
abbrev pub WantsAccess : Want → Type 0
WantsAccess Local = ⊥
WantsAccess (Access kind va value) = Unit {0}
WantsAccess Ended = ⊥

-- an access may be answered so: of the faults only those that end the board are told to a processor
abbrev pub MayAnswer : Answer → Type 0
MayAnswer (Done value) = Unit {0}
MayAnswer (Faulted kind) = is_ending kind ≡ true

-- what holds of each processor's meaning: a fault ends it, and an access that is done doesn't. So one that wants nothing
-- more after a local instruction has halted by it.
pub record IsLawful {S : Type 0} (m : Meaning S) : Type 0 where
  pub faulted : (s : S) (kind : FaultKind) → m.wants (m.answer s (Faulted kind)) ≡ Ended
  pub done : (s : S) (value : ℕ) → WantsAccess (m.wants s) → m.wants (m.answer s (Done value)) ≢ Ended
