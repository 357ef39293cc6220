-- Laws that tie refusals to the table of allowed answers and to the pager's conditions, and histories to their pieces.
use Rattle.std.specs.Prelude.{Option, All, ◌||◌, if◌then◌else◌, not, false, ℕ, ◌≡◌, ◌↔◌, ◌<◌, ◌^◌, ◌++◌, true, List, None, Some}
use Rattle.spur_flat.specs.declared.flat.Flat.{Flat}
use Rattle.spur_flat.specs.declared.access.AccessKind.{AccessKind}
use Rattle.spur_flat.specs.declared.access.AccessKind.TheVariants as access
use Rattle.spur_flat.specs.declared.access.FaultKind.{FaultKind}
use Rattle.spur_flat.specs.declared.access.FaultKind.TheVariants.{Align}
use Rattle.spur_flat.specs.declared.entry.Entry.{Entry}
use Rattle.spur_flat.specs.declared.entry.Entry.TheVariants.{Load, Store, Tas, Fault, Fill, Claim, WriteBack, Refresh, BlockFlush, Leave, PageOut, PageIn, SetRef, SetDirty, ClearRef}
use Rattle.spur_addr.specs.Address.{is_aligned, page_of}
use Rattle.spur_addr.specs.PageEntry.{is_valid, is_referenced, is_dirty, is_leaving}
use Rattle.spur_flat.specs.Access.{allows, fault_under, is_write, may, miss_of}
use Rattle.spur_flat.specs.Table.{walk_of, data_word, entry_at}
use Rattle.spur_flat.specs.Validity.{IsValidFlat}
use Rattle.spur_flat.specs.Refusal.{refusal_of}
use Rattle.spur_flat.specs.History.{on, flat_after, IsAllowed, IsLegal, own_entries}

-- the walk to an address finds the entry of its page
abbrev pub WalkFindsEntry : Type 0
WalkFindsEntry = (F : Flat) (g : ℕ) → walk_of F g ≡ entry_at F.words (page_of g)

-- each of the fifteen entries is refused exactly where it is not allowed; those of the bus are always allowed here
abbrev pub RefusedUnlessAllowed : Type 0
RefusedUnlessAllowed = (F : Flat) (entry : Entry) → (refusal_of F entry ≡ None) ↔ IsAllowed F entry

-- the miss answer of an access is an allowed answer
abbrev pub MissIsAllowed : Type 0
MissIsAllowed = (F : Flat) (access : AccessKind) (g : ℕ) → may (walk_of F g) access g (miss_of (walk_of F g) access g) ≡ true

-- under an entry of its page it is the first fault of an aligned access, and Align where the access is not aligned
abbrev pub MissUnderEntry : Type 0
MissUnderEntry = (entry g : ℕ) (access : AccessKind)
    → miss_of (Some entry) access g ≡ (if is_aligned g then fault_under entry access else Some Align)

-- so the entry that answers an access by its miss answer is never refused: the fault, the load of the
-- word that stands in memory, the store of any value, and the test-and-set that read the word
pub record MissIsNotRefused (F : Flat) (board g : ℕ) : Type 0 where
  pub fault : (access : AccessKind) (kind : FaultKind) → miss_of (walk_of F g) access g ≡ Some kind → refusal_of F (Fault board kind access g) ≡ None
  pub load : miss_of (walk_of F g) access.Load g ≡ None → refusal_of F (Load board g (data_word F g)) ≡ None
  pub store : (value : ℕ) → miss_of (walk_of F g) access.Store g ≡ None → refusal_of F (Store board g value) ≡ None
  pub tas : miss_of (walk_of F g) access.Tas g ≡ None → refusal_of F (Tas board g (data_word F g)) ≡ None

abbrev pub MissIsNeverRefused : Type 0
MissIsNeverRefused = (F : Flat) (board g : ℕ) → MissIsNotRefused F board g

-- where an access may be done, a load may be done too
abbrev pub DoneMayBeRead : Type 0
DoneMayBeRead = (F : Flat) (kind : AccessKind) (g : ℕ) → may (walk_of F g) kind g None ≡ true → may (walk_of F g) access.Load g None ≡ true

-- an entry under which an access needs no fault: valid and referenced, not leaving, the access
-- allowed, and dirty where it is a write
pub record IsReady (entry : ℕ) (access : AccessKind) : Type 0 where
  pub valid : is_valid entry ≡ true
  pub referenced : is_referenced entry ≡ true
  pub staying : is_leaving entry ≡ false
  pub allowed : allows entry access ≡ true
  pub dirty : (is_dirty entry || not (is_write access)) ≡ true

-- there an aligned access has no answer but that it is done
abbrev pub ReadyIsDone : Type 0
ReadyIsDone = (F : Flat) (access : AccessKind) (g entry : ℕ) (answer : Option FaultKind) → is_aligned g ≡ true → walk_of F g ≡ Some entry → IsReady entry access
    → may (walk_of F g) access g answer ≡ true → answer ≡ None

-- the address that an entry names
abbrev pub address_of : Entry → ℕ
address_of (Load board at value) = at
address_of (Store board at value) = at
address_of (Tas board at old) = at
address_of (Fault board kind access at) = at
address_of (Fill board layer need at) = at
address_of (Claim board at) = at
address_of (WriteBack board at) = at
address_of (Refresh board at) = at
address_of (BlockFlush board holder at) = at
address_of (Leave board at) = at
address_of (PageOut board at) = at
address_of (PageIn board at frame) = at
address_of (SetRef board at) = at
address_of (SetDirty board at) = at
address_of (ClearRef board at) = at

-- an allowed entry, an access or the pager's or any other, keeps a flat state valid
abbrev pub StaysValid : Type 0
StaysValid = (F : Flat) (entry : Entry) → IsValidFlat F → address_of entry < 2 ^ 38 → IsAllowed F entry → IsValidFlat (on F entry)

-- and so does a legal history
abbrev pub LegalStaysValid : Type 0
LegalStaysValid = (F : Flat) (history : List Entry) → IsValidFlat F → All (λ entry. address_of entry < 2 ^ 38) history → IsLegal F history → IsValidFlat (flat_after F history)

-- the flat state after a history in two pieces
abbrev pub AfterInPieces : Type 0
AfterInPieces = (F : Flat) (first second : List Entry) → flat_after F (first ++ second) ≡ flat_after (flat_after F first) second

-- such a history is legal where the first piece is, and the second from where the first leads
abbrev pub LegalInPieces : Type 0
LegalInPieces = (F : Flat) (first second : List Entry) → IsLegal F (first ++ second) ↔ (IsLegal F first × IsLegal (flat_after F first) second)

-- a board's own entries of such a history
abbrev pub OwnInPieces : Type 0
OwnInPieces = (first second : List Entry) (board : ℕ) → own_entries (first ++ second) board ≡ own_entries first board ++ own_entries second board
