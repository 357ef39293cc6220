-- The tables that a walk goes by: the root table and the page table, as the logical memory has them.
use Rattle.std.specs.Prelude.{ℕ, ◌≡◌, ◌+◌, ◌*◌, ◌^◌, ◌<◌, ◌≤◌, true, List, [], length, slice_index, Option, IsTrue}
use Rattle.spur_addr.specs.Address.{page_of, root_index_of, table_start, root_start}
use Rattle.spur_addr.specs.PageEntry.{is_valid, is_readable, number_of}
use Rattle.spur_cache.specs.declared.line.Line.{Line}
use Rattle.spur_flat.specs.declared.flat.Flat.{Flat}
use Rattle.spur_flat.specs.Blocks.{root_word_of, wired_frame}
use Rattle.spur_flat.specs.Pager.{word_of}
use Rattle.spur_bus.specs.Logical.{logical_words}

-- a flat state that has these words and nothing else: a walk looks at the words alone
abbrev pub flat_of_words : List ℕ → Flat
flat_of_words words = record { words = words; swap = []; pages = []; tables = 0; frames = 0 }

-- the logical memory as a flat state
abbrev pub logical_flat : List (List (Option Line)) → List ℕ → Flat
logical_flat caches memory = flat_of_words (logical_words caches memory)

-- the root entry for the page of g: of that page of the table which has the entry of g's page
abbrev pub root_at : Flat → ℕ → ℕ
root_at F g = slice_index F.words (root_index_of g)

-- how many root entries are for pages below segment 255
abbrev pub user_roots : ℕ
user_roots = 255 * 2 ^ 8

-- a frame that a valid entry may name: it is past the 64 of the root, and one of the memory's
pub record IsPageFrame (F : Flat) (frame : ℕ) : Type 0 where
  pub low : 64 ≤ frame
  pub room : frame * 1024 + 1024 ≤ length F.words

-- The tables can be walked, for pages below segment 255. The root table is there; root and table words are readable; and
-- the frames of the valid entries are such, and all different. An entry that is not there is 0, which is readable and not
-- valid.
pub record HasTables (F : Flat) : Type 0 where
  pub root : 2 ^ 16 ≤ length F.words
  pub root_readable : (r : ℕ) → r < user_roots → IsTrue (is_readable (slice_index F.words r))
  pub readable : (at : ℕ) → at < table_start → IsTrue (is_readable (word_of F at))
  pub root_frame : (r : ℕ) → r < user_roots → is_valid (slice_index F.words r) ≡ true → IsPageFrame F (number_of (slice_index F.words r))
  pub frame : (at : ℕ) → at < table_start → is_valid (word_of F at) ≡ true → IsPageFrame F (number_of (word_of F at))
  pub root_apart : (r s : ℕ) → r < user_roots → s < user_roots → is_valid (slice_index F.words r) ≡ true → is_valid (slice_index F.words s) ≡ true
      → number_of (slice_index F.words r) ≡ number_of (slice_index F.words s) → r ≡ s
  pub apart : (at to : ℕ) → at < table_start → to < table_start → is_valid (word_of F at) ≡ true → is_valid (word_of F to) ≡ true
      → number_of (word_of F at) ≡ number_of (word_of F to) → page_of at ≡ page_of to
  pub table_apart : (at r : ℕ) → at < table_start → r < user_roots → is_valid (word_of F at) ≡ true → is_valid (slice_index F.words r) ≡ true
      → number_of (word_of F at) ≡ number_of (slice_index F.words r) → ⊥

-- a flat state has these words in the root table, and in each frame of the page table that the root names
pub record HasTablesOf (F : Flat) (words : List ℕ) : Type 0 where
  pub root : (r : ℕ) → r < 2 ^ 16 → slice_index F.words r ≡ slice_index words r
  pub table : (r k : ℕ) → r < 2 ^ 16 → k < 1024 → is_valid (slice_index words r) ≡ true
      → slice_index F.words (number_of (slice_index words r) * 1024 + k) ≡ slice_index words (number_of (slice_index words r) * 1024 + k)

-- the first byte of the block with this number
abbrev pub block_address : ℕ → ℕ
block_address block = block * 2 ^ 5

-- by the tables the block with this number stands in a frame: a user's block where the entry of its page is valid and
-- names the frame; a block of the page table where its root entry does; and one of the root table in its wired frame
pub data StandsIn (F : Flat) (block frame : ℕ) : Type 0 where
  OfPage : block_address block < table_start → is_valid (word_of F (block_address block)) ≡ true → number_of (word_of F (block_address block)) ≡ frame → StandsIn F block frame
  OfTable : table_start ≤ block_address block → block_address block < root_start → is_valid (slice_index F.words (root_word_of (block_address block))) ≡ true
      → number_of (slice_index F.words (root_word_of (block_address block))) ≡ frame → StandsIn F block frame
  OfRoot : root_start ≤ block_address block → block_address block < root_start + 2 ^ 18 → frame ≡ wired_frame (block_address block) → StandsIn F block frame
