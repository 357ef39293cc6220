-- What the law needs: two states in which it fails.
use Rattle.std.specs.Prelude.{◌≡◌, [], ◌∷◌}
use Rattle.spur_flat.specs.declared.flat.Flat.{Flat}
use Rattle.spur_flat.specs.declared.entry.Entry.TheVariants.{Load, Store}
use Rattle.spur_flat.specs.History.{flat_after, IsLegal}

-- a memory without a valid root entry: no page is there
abbrev pub nothing_there : Flat
nothing_there = record { words = 0 ∷ 0 ∷ []; swap = []; pages = []; tables = 0; frames = 0 }

-- stores that are not legal, of two words, do not lead to the same memory the other way about
abbrev pub StoresNeedToBeLegal : Type 0
StoresNeedToBeLegal = flat_after nothing_there (Store 0 0 1 ∷ Store 1 4 2 ∷ [])
    ≡ flat_after nothing_there (Store 1 4 2 ∷ Store 0 0 1 ∷ []) → ⊥

-- a memory that is not valid: word 0 is a root entry and names frame 0 (bit 0), and there the entries of pages 1 and 2
-- are valid, dirty, for reading and writing (bits 0, 2 and 4), and name frame 0, both
abbrev pub two_in_one : Flat
two_in_one = record { words = 1 ∷ 21 ∷ 21 ∷ 0 ∷ 0 ∷ 0 ∷ []; swap = []; pages = []; tables = 0; frames = 0 }

-- a load of the one page and a store of the other are of one place: they are legal one way about alone
pub record PagesNeedTheirFrames : Type 0 where
  pub legal : IsLegal two_in_one (Load 0 4116 0 ∷ Store 1 8212 7 ∷ [])
  pub illegal : IsLegal two_in_one (Store 1 8212 7 ∷ Load 0 4116 0 ∷ []) → ⊥
