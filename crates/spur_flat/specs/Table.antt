-- The page table in memory: the walk to a page's entry, and where words stand.
use Rattle.std.specs.Prelude.{ℕ, ◌+◌, ◌*◌, ◌/◌, ◌%◌, ◌^◌, if◌then◌else◌, List, Option, Some, None, slice_index}
use Rattle.spur_addr.specs.PageEntry.{is_valid, number_of}
use Rattle.spur_flat.specs.declared.flat.Flat.{Flat}

-- how many words the root table and the pages of the page table have, in frames of 1024 words
abbrev pub table_words : ℕ → ℕ
table_words tables = 1024 * (64 + tables)

-- the entry of page p: none where the root entry is not valid, else the word that stands for the page
-- in the frame that the root entry names
abbrev pub entry_at : List ℕ → ℕ → Option ℕ
entry_at words p =
    let root = slice_index words (p / 2 ^ 10) in
    if is_valid root then Some (slice_index words (number_of root * 1024 + p % 1024)) else None

-- the walk: the entry of the page of address g. The word at index g >> 22 is the root entry, and the
-- page's entry is the word (g >> 12) mod 1024 of its frame.
abbrev pub walk_of : Flat → ℕ → Option ℕ
walk_of F g =
    let root = slice_index F.words (g / 2 ^ 22) in
    if is_valid root then Some (slice_index F.words (number_of root * 1024 + g / 2 ^ 12 % 1024)) else None

-- the place of the word of g under the entry of its page: the word (g >> 2) mod 1024 of its frame
abbrev pub place_in : Option ℕ → ℕ → ℕ
place_in None g = 0
place_in (Some entry) g = number_of entry * 1024 + g / 2 ^ 2 % 1024

abbrev pub place_of : Flat → ℕ → ℕ
place_of F g = place_in (walk_of F g) g

-- the data word of address g
abbrev pub data_word : Flat → ℕ → ℕ
data_word F g = slice_index F.words (place_of F g)
