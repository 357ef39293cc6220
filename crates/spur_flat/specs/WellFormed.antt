-- Well-formed entries, whole: beside what each layer keeps of an entry, an access that is done is at a word, and a page comes
-- into a frame that memory may have.
use Rattle.std.specs.Prelude.{ℕ, ◌≡◌, ◌%◌, ◌^◌, ◌<◌, ⊤, List}
use Rattle.std.specs.List.{AllByRecursion}
use Rattle.spur_flat.specs.declared.flat.Flat.{Flat}
use Rattle.spur_flat.specs.declared.entry.Entry.{Entry}
use Rattle.spur_flat.specs.declared.entry.Entry.TheVariants.{Load, Store, Tas, PageIn}
use Rattle.spur_flat.specs.Formed.{IsFormed}
use Rattle.spur_flat.specs.History.{IsLegal}
use Rattle.spur_flat.specs.Untold.{IsAllowedButValue, IsLegalButValues}
use Rattle.spur_flat.specs.Validity.{IsValidFlat}

-- an access that is done is at the first byte of a word; a fault may be of any byte
abbrev pub IsAtWord : Entry → Type 0
IsAtWord (Load board at value) = at % 4 ≡ 0
IsAtWord (Store board at value) = at % 4 ≡ 0
IsAtWord (Tas board at old) = at % 4 ≡ 0
IsAtWord entry = ⊤

-- a page comes into one of at most 4096 frames
abbrev pub IsIntoFrame : Entry → Type 0
IsIntoFrame (PageIn board at frame) = frame < 4096
IsIntoFrame entry = ⊤

-- A well-formed entry of a history of so many boards: it names boards that are there; its address is a global one, and the
-- first byte of a word, a block or a page where it is of one; and its frame is one that memory may have.
pub record IsWellFormed (boards : ℕ) (e : Entry) : Type 0 where
  pub formed : IsFormed boards e
  pub word : IsAtWord e
  pub frame : IsIntoFrame e

-- an entry that each layer formed so is well formed where it is allowed in a valid flat state, but for the value that it read
abbrev pub AllowedIsWellFormed : Type 0
AllowedIsWellFormed = (F : Flat) (boards : ℕ) (e : Entry) → IsValidFlat F → IsFormed boards e → IsAllowedButValue F e → IsWellFormed boards e

-- and so is each entry of a history that is legal but for the values that it read
abbrev pub LegalIsWellFormed : Type 0
LegalIsWellFormed = (F : Flat) (boards : ℕ) (history : List Entry) → IsValidFlat F → AllByRecursion (IsFormed boards) history
    → IsLegalButValues F history → AllByRecursion (IsWellFormed boards) history

-- a legal history is legal but for the values that it read
abbrev pub LegalButValues : Type 0
LegalButValues = (F : Flat) (history : List Entry) → IsLegal F history → IsLegalButValues F history

-- the word that an access read or wrote has 32 bits, as an entry's type has it
abbrev pub HasWord : Entry → Type 0
HasWord (Load board at value) = value < 2 ^ 32
HasWord (Store board at value) = value < 2 ^ 32
HasWord (Tas board at old) = old < 2 ^ 32
HasWord entry = ⊤
