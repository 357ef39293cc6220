-- Which flat states are valid.
use Rattle.std.specs.Prelude.{ℕ, ◌≡◌, ◌+◌, ◌*◌, ◌^◌, ◌<◌, ◌≤◌, true, not, ◌||◌, List, length, slice_index, Some, IsTrue}
use Rattle.spur_addr.specs.Address.{user_pages}
use Rattle.spur_addr.specs.PageEntry.{is_valid, is_on_swap, is_leaving, is_readable, number_of}
use Rattle.spur_flat.specs.declared.flat.Flat.{Flat}
use Rattle.spur_flat.specs.Table.{entry_at, table_words}

-- the declared page numbers differ, and are below segment 255
pub record ArePages (pages : List ℕ) : Type 0 where
  pub small : (i : ℕ) → i < length pages → slice_index pages i < user_pages
  pub differ : (i j : ℕ) → i < length pages → j < length pages → slice_index pages i ≡ slice_index pages j → i ≡ j

-- page p is declared, at a position of the list
pub record IsDeclared (pages : List ℕ) (p : ℕ) : Type 0 where
  pub position : ℕ
  pub within : position < length pages
  pub is : slice_index pages position ≡ p

-- n is a frame of the page table: the 64 frames of the root come before
pub record IsTableFrame (tables n : ℕ) : Type 0 where
  pub low : 64 ≤ n
  pub high : n < 64 + tables

-- n is a data frame: those of the root and of the page table come before
pub record IsDataFrame (tables frames n : ℕ) : Type 0 where
  pub low : 64 + tables ≤ n
  pub high : n < 64 + tables + frames

-- an entry of the page that is declared at position i: exactly one of valid and on swap, the slot is
-- the position where it is on swap, and leaving only where it is valid
pub record StandsFor (i entry : ℕ) : Type 0 where
  pub one : is_valid entry ≡ not (is_on_swap entry)
  pub slot : is_on_swap entry ≡ true → number_of entry ≡ i
  pub leaving : is_leaving entry ≡ true → is_valid entry ≡ true

-- page p, which is declared at position i, has such an entry
pub record HasEntry (words : List ℕ) (i p : ℕ) : Type 0 where
  pub entry : ℕ
  pub there : entry_at words p ≡ Some entry
  pub stands : StandsFor i entry

-- what holds of the words of the root table, with 2^16 entries, and of the page table, whose entries
-- are those of the pages below 2^26
pub record AreTables (words pages : List ℕ) (tables frames : ℕ) : Type 0 where
  -- each word of the frames 0 to 63 + tables is readable
  pub readable : (k : ℕ) → k < table_words tables → IsTrue (is_readable (slice_index words k))
  -- a valid root entry has a frame of the page table, and no two have the same one
  pub root : (r : ℕ) → r < 2 ^ 16 → is_valid (slice_index words r) ≡ true → IsTableFrame tables (number_of (slice_index words r))
  pub root_apart : (r s : ℕ) → r < 2 ^ 16 → s < 2 ^ 16 → is_valid (slice_index words r) ≡ true → is_valid (slice_index words s) ≡ true
      → number_of (slice_index words r) ≡ number_of (slice_index words s) → r ≡ s
  -- an entry that is valid or on swap is that of a declared page
  pub declared : (p e : ℕ) → p < 2 ^ 26 → entry_at words p ≡ Some e → (is_valid e || is_on_swap e) ≡ true → IsDeclared pages p
  -- a valid entry has a data frame, and no two have the same one
  pub frame : (p e : ℕ) → p < 2 ^ 26 → entry_at words p ≡ Some e → is_valid e ≡ true → IsDataFrame tables frames (number_of e)
  pub frame_apart : (p q d e : ℕ) → p < 2 ^ 26 → q < 2 ^ 26 → entry_at words p ≡ Some d → entry_at words q ≡ Some e
      → is_valid d ≡ true → is_valid e ≡ true → number_of d ≡ number_of e → p ≡ q
  -- each declared page has an entry, and it stands for the page
  pub each : (i : ℕ) → i < length pages → HasEntry words i (slice_index pages i)

-- a flat state that may be walked and changed
pub record IsValidFlat (F : Flat) : Type 0 where
  -- memory has 1024 words a frame, and swap 1024 words a declared page
  pub words : length F.words ≡ 1024 * (64 + F.tables + F.frames)
  pub swap : length F.swap ≡ 1024 * length F.pages
  -- at most 4096 frames, and at most 2048 declared pages
  pub few_frames : 64 + F.tables + F.frames ≤ 4096
  pub few_pages : length F.pages ≤ 2048
  -- the declared pages, and the tables that describe them
  pub pages : ArePages F.pages
  pub tables : AreTables F.words F.pages F.tables F.frames
