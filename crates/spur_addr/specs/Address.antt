-- Global virtual addresses, as numbers of bytes below 2 ^ 38, and where the page table has its entries.
use Rattle.std.specs.Prelude.{ℕ, Bool, List, ◌+◌, ◌*◌, ◌/◌, ◌%◌, ◌^◌, ◌==◌, slice_index}

-- the number of the page of 4096 bytes
abbrev pub page_of : ℕ → ℕ
page_of g = g / 2 ^ 12

-- the first byte of a page, by its number
abbrev pub page_address : ℕ → ℕ
page_address page = page * 2 ^ 12

-- how many pages there are below segment 255
abbrev pub user_pages : ℕ
user_pages = 255 * 2 ^ 18

-- the number of the block of 32 bytes
abbrev pub block_of : ℕ → ℕ
block_of g = g / 2 ^ 5

-- the first byte of the block
abbrev pub block_start_of : ℕ → ℕ
block_start_of g = g / 2 ^ 5 * 2 ^ 5

-- the place of the word in its block
abbrev pub word_in_block_of : ℕ → ℕ
word_in_block_of g = g / 2 ^ 2 % 8

-- whether the address is that of a word's first byte
abbrev pub is_aligned : ℕ → Bool
is_aligned g = g % 4 == 0

-- the global address of a process address: the segment of the register that the top two bits
-- choose, and the low 30 bits
abbrev pub global_of : List ℕ → ℕ → ℕ
global_of segs va = slice_index segs (va / 2 ^ 30) * 2 ^ 30 + va % 2 ^ 30

-- the first address of the page table: the start of segment 255
abbrev pub table_start : ℕ
table_start = 255 * 2 ^ 30

-- the address of the entry of the page that g is in, with 4 bytes an entry
abbrev pub entry_address_of : ℕ → ℕ
entry_address_of g = table_start + 4 * (g / 2 ^ 12)

-- the first address of the root: of the entries of the table's own pages
abbrev pub root_start : ℕ
root_start = table_start + 255 * 2 ^ 20

-- the place in the root of the entry of the table's page that has the entry of g
abbrev pub root_index_of : ℕ → ℕ
root_index_of g = g / 2 ^ 22

-- the physical byte at which that root entry stands, with 4 bytes an entry
abbrev pub root_place_of : ℕ → ℕ
root_place_of g = 4 * root_index_of g
