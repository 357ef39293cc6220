-- The entries of a legal history are well formed.
use Rattle.std.proofs.Common.{◌≡◌, ℕ, ◌%◌, Bool, true, false, if◌then◌else◌, Option, None, [], ◌∷◌, refl, arith}
use Rattle.std.proofs.lemmas.Bool.{eqb-true}
use Rattle.spur_addr.specs.Address.{is_aligned}
use Rattle.spur_flat.specs.declared.flat.Flat.{Flat}
use Rattle.spur_flat.specs.declared.access.AccessKind.{AccessKind}
use Rattle.spur_flat.specs.declared.access.AccessKind.TheVariants as access
use Rattle.spur_flat.specs.declared.entry.Entry.{Entry}
use Rattle.spur_flat.specs.declared.entry.Entry.TheVariants.{Load, Store, Tas, Fault, Fill, Claim, WriteBack, Refresh, BlockFlush, Leave, PageOut, PageIn, SetRef, SetDirty, ClearRef}
use Rattle.spur_flat.specs.Access.{may, may_aligned, is_align}
use Rattle.spur_flat.specs.Formed.{IsFormed}
use Rattle.spur_flat.specs.History.{on, IsAllowed}
use Rattle.spur_flat.specs.Table.{data_word, walk_of}
use Rattle.spur_flat.specs.Untold.{IsAllowedButValue}
use Rattle.spur_flat.specs.Validity.{IsValidFlat}
use Rattle.spur_flat.specs.WellFormed.{AllowedIsWellFormed, IsAtWord, IsIntoFrame, LegalButValues, LegalIsWellFormed}
use Rattle.spur_flat.proofs.HistoryFacts.{stays-valid}
use Rattle.spur_flat.proofs.PagerFacts.{free_frame}

-- an access that may be done is aligned
done_aligned : (e : Option ℕ) (kind : AccessKind) (g : ℕ) → may e kind g None ≡ true → g % 4 ≡ 0
done_aligned e kind g done = eqb-true (g % 4) 0 (by (is_aligned g) done)
  where
    by : (aligned : Bool) → (if aligned then may_aligned e kind None else is_align None) ≡ true → aligned ≡ true
    by true is = refl
    by false is = absurd cc

at_word : (F : Flat) (e : Entry) → IsAllowedButValue F e → IsAtWord e
at_word F (Load board at value) allowed = done_aligned (walk_of F at) access.Load at allowed
at_word F (Store board at value) allowed = done_aligned (walk_of F at) access.Store at allowed
at_word F (Tas board at old) allowed = done_aligned (walk_of F at) access.Tas at allowed
at_word F e allowed = tt

into_frame : (F : Flat) (e : Entry) → IsValidFlat F → IsAllowedButValue F e → IsIntoFrame e
into_frame F (PageIn board at frame) ok allowed = let high = (free_frame F frame allowed.1).among.high in omega (arith, ok.few_frames)
into_frame F e ok allowed = tt

pub allowed_is_well_formed : AllowedIsWellFormed
allowed_is_well_formed F boards e ok formed allowed = record { formed = formed; word = at_word F e allowed; frame = into_frame F e ok allowed }

-- an entry with the value that memory has is allowed, and leaves the same
valid_on : (F : Flat) (boards : ℕ) (e : Entry) → IsValidFlat F → IsFormed boards e → IsAllowedButValue F e → IsValidFlat (on F e)
valid_on F boards (Load board at value) ok formed allowed = ok
valid_on F boards (Tas board at old) ok formed allowed = stays-valid F (Tas board at (data_word F at)) ok formed.small (allowed, refl)
valid_on F boards (Store board at value) ok formed allowed = stays-valid F (Store board at value) ok formed.small allowed
valid_on F boards (Fault board kind access at) ok formed allowed = ok
valid_on F boards (Fill board layer need at) ok formed allowed = ok
valid_on F boards (Claim board at) ok formed allowed = ok
valid_on F boards (WriteBack board at) ok formed allowed = ok
valid_on F boards (Refresh board at) ok formed allowed = ok
valid_on F boards (BlockFlush board holder at) ok formed allowed = ok
valid_on F boards (Leave board at) ok formed allowed = stays-valid F (Leave board at) ok formed.small allowed
valid_on F boards (PageOut board at) ok formed allowed = stays-valid F (PageOut board at) ok formed.small allowed
valid_on F boards (PageIn board at frame) ok formed allowed = stays-valid F (PageIn board at frame) ok formed.small allowed
valid_on F boards (SetRef board at) ok formed allowed = stays-valid F (SetRef board at) ok formed.small allowed
valid_on F boards (SetDirty board at) ok formed allowed = stays-valid F (SetDirty board at) ok formed.small allowed
valid_on F boards (ClearRef board at) ok formed allowed = stays-valid F (ClearRef board at) ok formed.small allowed

pub legal_is_well_formed : LegalIsWellFormed
legal_is_well_formed F boards [] ok formed legal = tt
legal_is_well_formed F boards (e ∷ rest) ok formed legal = (
  allowed_is_well_formed F boards e ok formed.0 legal.0,
  legal_is_well_formed (on F e) boards rest (valid_on F boards e ok formed.0 legal.0) formed.1 legal.1,
)

but_value : (F : Flat) (e : Entry) → IsAllowed F e → IsAllowedButValue F e
but_value F (Load board at value) allowed = allowed.0
but_value F (Tas board at old) allowed = allowed.0
but_value F e allowed = allowed

pub legal_but_values : LegalButValues
legal_but_values F [] legal = tt
legal_but_values F (e ∷ rest) legal = (but_value F e legal.0, legal_but_values (on F e) rest legal.1)
