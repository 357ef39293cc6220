-- Accesses and faults that may change places: those of different boards of which none writes a word that the other
-- reads or writes.
use Rattle.std.specs.Prelude.{ℕ, ◌≢◌, ◌/◌, ◌^◌, ◌<◌, ⊤, Option, Some, None, List}
use Rattle.std.specs.List.{AllByRecursion}
use Rattle.spur_flat.specs.declared.entry.Entry.{Entry}
use Rattle.spur_flat.specs.declared.entry.Entry.TheVariants.{Load, Store, Tas}
use Rattle.spur_flat.specs.Blocks.{board_of}
use Rattle.spur_flat.specs.Laws.{address_of}
use Rattle.spur_flat.specs.StateLaws.{IsAccess}

-- the word that an entry reads, and the word that it writes, by the number of the word in the global address space
abbrev pub read_by : Entry → Option ℕ
read_by (Load board at value) = Some (at / 2 ^ 2)
read_by (Tas board at old) = Some (at / 2 ^ 2)
read_by _ = None

abbrev pub written_by : Entry → Option ℕ
written_by (Store board at value) = Some (at / 2 ^ 2)
written_by (Tas board at old) = Some (at / 2 ^ 2)
written_by _ = None

-- they are not both there and the same
abbrev pub AreOtherWords : Option ℕ → Option ℕ → Type 0
AreOtherWords (Some word) (Some other) = word ≢ other
AreOtherWords _ _ = ⊤

-- an access that is done, or a fault, at a global address
pub record IsAddressed (entry : Entry) : Type 0 where
  pub access : IsAccess entry
  pub small : address_of entry < 2 ^ 38

-- another is such too, of another board; neither writes a word that the other reads or writes
pub record IsApart (entry other : Entry) : Type 0 where
  pub addressed : IsAddressed other
  pub boards : board_of entry ≢ board_of other
  pub reads : AreOtherWords (read_by entry) (written_by other)
  pub writes : AreOtherWords (written_by entry) (read_by other)
  pub words : AreOtherWords (written_by entry) (written_by other)

-- an entry is such, and each of a list is apart from it
pub record MayPass (entry : Entry) (list : List Entry) : Type 0 where
  pub addressed : IsAddressed entry
  pub apart : AllByRecursion (IsApart entry) list
