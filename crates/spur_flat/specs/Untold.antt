-- What is said of a history where the swap does not tell its pages: all but the values that were read.
use Rattle.std.specs.Prelude.{◌≡◌, ⊤, ◌*◌, true, List, [], ◌∷◌, None, length, take}
use Rattle.spur_flat.specs.declared.flat.Flat.{Flat}
use Rattle.spur_flat.specs.declared.access.AccessKind.TheVariants as access
use Rattle.spur_flat.specs.declared.entry.Entry.{Entry}
use Rattle.spur_flat.specs.declared.entry.Entry.TheVariants.{Load, Tas}
use Rattle.spur_flat.specs.Access.{may}
use Rattle.spur_flat.specs.Table.{walk_of, table_words}
use Rattle.spur_flat.specs.History.{on, flat_after, IsAllowed}
use Rattle.spur_flat.specs.State.{State, IsTagged, IsNeeded, tags_after, open_after}

-- an entry is allowed but for the value that it read
abbrev pub IsAllowedButValue : Flat → Entry → Type 0
IsAllowedButValue F (Load board at value) = may (walk_of F at) access.Load at None ≡ true
IsAllowedButValue F (Tas board at old) = may (walk_of F at) access.Tas at None ≡ true
IsAllowedButValue F entry = IsAllowed F entry

-- a history is legal but for the values that it read
abbrev pub IsLegalButValues : Flat → List Entry → Type 0
IsLegalButValues F [] = ⊤
IsLegalButValues F (entry ∷ rest) = IsAllowedButValue F entry × IsLegalButValues (on F entry) rest

-- a flat state that is like another but for data and swapped words: the same pages and numbers of frames, as many words
-- of memory, the same words in the root and the page table, and 1024 swapped words a declared page
pub record IsLike (F other : Flat) : Type 0 where
  pub pages : F.pages ≡ other.pages
  pub tables : F.tables ≡ other.tables
  pub frames : F.frames ≡ other.frames
  pub words : length F.words ≡ length other.words
  pub table : take (table_words other.tables) F.words ≡ take (table_words other.tables) other.words
  pub swap : length F.swap ≡ 1024 * length other.pages

-- a piece is carried from one flat state: it is tagged, needed and legal but for the values that it read, and leads to one
-- that is like the memory at the end, with the tags and the open entries of that moment
pub record LeadsUntold (F : Flat) (from to : State) (piece : List Entry) : Type 0 where
  pub legal : IsLegalButValues F piece
  pub tagged : IsTagged F from.tags piece
  pub needed : IsNeeded from.lines from.opened piece
  pub like : IsLike (flat_after F piece) to.flat
  pub tags : tags_after F from.tags piece ≡ to.tags
  pub opened : open_after from.opened piece ≡ to.opened
  pub lines : from.lines ≡ to.lines

-- a piece is carried from one state to another where the swap is not told: from every flat state that is like the first
abbrev pub IsCarriedUntold : State → State → List Entry → Type 0
IsCarriedUntold from to piece = (F : Flat) → IsLike F from.flat → LeadsUntold F from to piece
