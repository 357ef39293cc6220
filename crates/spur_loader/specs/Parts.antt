-- The parts of an opening's memory, each on its own, as the calls that make them give them.
use Rattle.std.specs.Prelude.{◌≡◌, ℕ, ◌+◌, ◌*◌, ◌%◌, ◌<◌, ◌≤◌, List, Option, Some, None, length, map, slice_index, slice_get, Contains, ◌↔◌, if◌then◌else◌}
use Rattle.std.specs.List.Sorted.{IsStrictlyIncreasing}
use Rattle.spur_addr.specs.PageEntry.{is_on_swap, number_of}
use Rattle.spur_object.specs.declared.unit.PageText.{PageText}
use Rattle.spur_object.specs.declared.unit.WordText.{WordText}
use Rattle.spur_loader.specs.Opening.{page_numbers, first_place, root_of_page, root_word, entry_word, page_word}

-- the root entries that the declared pages need, each once and in ascending order
pub record AreRoots (pages : List PageText) (roots : List ℕ) : Type 0 where
  pub ascending : IsStrictlyIncreasing roots
  pub needed : (r : ℕ) → Contains roots r ↔ Contains (map root_of_page (page_numbers pages)) r

-- as many words as said, all zero
pub record AreZeros (count : ℕ) (words : List ℕ) : Type 0 where
  pub size : length words ≡ count
  pub zero : (k : ℕ) → slice_index words k ≡ 0

-- the root table, with an empty page of the page table behind it for each needed root entry
pub record IsRootTable (roots words : List ℕ) : Type 0 where
  pub size : length words ≡ 1024 * (64 + length roots)
  pub root : (r : ℕ) → r < 65536 → slice_index words r ≡ root_word roots r
  pub empty : (k : ℕ) → 65536 ≤ k → slice_index words k ≡ 0

-- the root table and the pages of the page table, one for each needed root entry
pub record ArePageTables (roots : List ℕ) (pages : List PageText) (words : List ℕ) : Type 0 where
  pub size : length words ≡ 1024 * (64 + length roots)
  pub root : (r : ℕ) → r < 65536 → slice_index words r ≡ root_word roots r
  pub entry : (t r j : ℕ) → slice_get roots t ≡ Some r → j < 1024
      → slice_index words ((64 + t) * 1024 + j) ≡ entry_word pages (r * 1024 + j)

-- the words of the declared pages, slot by slot
pub record HoldsPages (pages : List PageText) (texts : List WordText) (words : List ℕ) : Type 0 where
  pub size : length words ≡ 1024 * length pages
  pub word : (k j : ℕ) (page : PageText) → slice_get pages k ≡ Some page → j < 1024
      → slice_index words (k * 1024 + j) ≡ page_word texts page.page j

-- the place of a page's entry in memory: the page of its root entry, and there the place of the page among 1024
pub record IsEntryPlace (roots : List ℕ) (page place : ℕ) : Type 0 where
  pub table : ℕ
  pub there : slice_get roots table ≡ Some (root_of_page page)
  pub is : place ≡ (64 + table) * 1024 + page % 1024

-- the slot that an entry names
abbrev pub slot_in_entry : ℕ → Option ℕ
slot_in_entry entry = if is_on_swap entry then Some (number_of entry) else None

-- the slot that the tables give a page
abbrev pub slot_under : List ℕ → ℕ → Option ℕ → Option ℕ
slot_under words page None = None
slot_under words page (Some t) = slot_in_entry (slice_index words ((64 + t) * 1024 + page % 1024))

abbrev pub found_slot : List ℕ → List ℕ → ℕ → Option ℕ
found_slot roots words page = slot_under words page (first_place roots (root_of_page page))
