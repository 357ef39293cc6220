-- With what a run of a unit begins. Each declared page is in a swap slot of its own, and none is in a frame.
use Rattle.std.specs.Prelude.{◌≡◌, ℕ, ◌+◌, ◌*◌, ◌/◌, ◌%◌, ◌<◌, ◌==◌, Bool, List, [], ◌∷◌, ◌++◌, Option, Some, None, length, map, replicate, slice_index, slice_get, if◌then◌else◌, is_some, false}
use Rattle.std.specs.List.{filter, list_any, range_with_len}
use Rattle.spur_addr.specs.Address.{page_address, user_pages}
use Rattle.spur_addr.specs.PageEntry.{swapped_of, is_valid}
use Rattle.spur_object.specs.declared.unit.Unit.{Unit as Program}
use Rattle.spur_object.specs.declared.unit.PageText.{PageText}
use Rattle.spur_object.specs.declared.unit.WordText.{WordText}
use Rattle.spur_flat.specs.declared.flat.Flat.{Flat}
use Rattle.spur_flat.specs.Pager.{word_of}
use Rattle.spur_flat.specs.State.{State, opening_state}
use Rattle.spur_loader.specs.declared.opening.Opening.{Opening}
use Rattle.spur_loader.specs.declared.opening.Options.{Options}

-- ---- which pages there are, and where

-- the numbers of the declared pages, in the order of their lines
abbrev pub page_numbers : List PageText → List ℕ
page_numbers pages = map (λ page. page.page) pages

-- the first place of a number in a list, and none where it is not there
abbrev pub first_place_from : ℕ → List ℕ → ℕ → Option ℕ
first_place_from k [] n = None
first_place_from k (x ∷ more) n = if x == n then Some k else first_place_from (k + 1) more n

abbrev pub first_place : List ℕ → ℕ → Option ℕ
first_place xs n = first_place_from 0 xs n

-- the slot of a page is its position among the declared ones
abbrev pub slot_of : List PageText → ℕ → Option ℕ
slot_of pages p = first_place (page_numbers pages) p

abbrev pub declares : List PageText → ℕ → Bool
declares pages p = is_some (slot_of pages p)

abbrev pub page_of_slot : List PageText → Option ℕ → Option PageText
page_of_slot pages None = None
page_of_slot pages (Some slot) = slice_get pages slot

-- ---- the root entries that are needed

-- the root entry of a page, with 1024 pages an entry
abbrev pub root_of_page : ℕ → ℕ
root_of_page page = page / 1024

-- whether a declared page needs root entry r
abbrev pub needs_root : List PageText → ℕ → Bool
needs_root pages r = list_any (λ page. root_of_page page.page == r) pages

-- those of the 65,536 that a declared page needs, in ascending order
unfoldable pub roots_of : List PageText → List ℕ
roots_of pages = filter (needs_root pages) (range_with_len 0 65536)

-- ---- memory

-- the entry of a page of the page table in a frame: valid, referenced, dirty, read and write
abbrev pub root_entry_of : ℕ → ℕ
root_entry_of frame = frame * 4096 + 23

-- a root entry: the table page of the t-th needed one is in frame 64 + t; the others are zero
abbrev pub root_word_in : Option ℕ → ℕ
root_word_in None = 0
root_word_in (Some t) = root_entry_of (64 + t)

abbrev pub root_word : List ℕ → ℕ → ℕ
root_word roots r = root_word_in (first_place roots r)

-- the entry with which a declared page begins: it is on swap in its slot
abbrev pub first_entry_of : ℕ → PageText → ℕ
first_entry_of slot page = swapped_of slot page.prot

-- the entry of a page; that of a page that is not declared is zero
abbrev pub entry_word_in : Option ℕ → Option PageText → ℕ
entry_word_in (Some slot) (Some page) = first_entry_of slot page
entry_word_in slot page = 0

abbrev pub entry_word : List PageText → ℕ → ℕ
entry_word pages p = entry_word_in (slot_of pages p) (page_of_slot pages (slot_of pages p))

-- word k of the page table: an entry of the needed root entry that its page stands for
abbrev pub table_word : List ℕ → List PageText → ℕ → ℕ
table_word roots pages k = entry_word pages (slice_index roots (k / 1024) * 1024 + k % 1024)

-- ---- swap

-- the word at an address: that of the last `.word` line that names it, and 0 where none does
abbrev pub last_word : ℕ → List WordText → ℕ → ℕ
last_word sofar [] g = sofar
last_word sofar (word ∷ more) g = last_word (if word.at == g then word.value else sofar) more g

abbrev pub word_at : List WordText → ℕ → ℕ
word_at words g = last_word 0 words g

-- word j of the page with this number: its address is that of the page and 4 bytes a word
abbrev pub page_word : List WordText → ℕ → ℕ → ℕ
page_word words page j = word_at words (page * 4096 + 4 * j)

-- word k of the swap slots, 1024 a slot
abbrev pub swap_word : Program → ℕ → ℕ
swap_word unit k = page_word unit.words (slice_index (page_numbers unit.pages) (k / 1024)) (k % 1024)

-- ---- the whole

-- what a definition gives for 0, 1 and so on, n in all
abbrev pub each_below : ℕ → (ℕ → ℕ) → List ℕ
each_below n f = map f (range_with_len 0 n)

-- memory: the root table in frames 0 to 63, the page table behind it, and empty data frames
unfoldable pub memory_of : Program → Options → List ℕ
memory_of unit options =
    each_below 65536 (root_word (roots_of unit.pages))
    ++ each_below (1024 * length (roots_of unit.pages)) (table_word (roots_of unit.pages) unit.pages)
    ++ replicate (1024 * options.frames) 0

unfoldable pub swap_of : Program → List ℕ
swap_of unit = each_below (1024 * length unit.pages) (swap_word unit)

abbrev pub opening_flat : Program → Options → Flat
opening_flat unit options = record {
  words = memory_of unit options;
  swap = swap_of unit;
  pages = page_numbers unit.pages;
  tables = length (roots_of unit.pages);
  frames = options.frames;
}

-- the opening of a unit with these options
abbrev pub opening_of : Program → Options → Opening
opening_of unit options = record {
  flat = opening_flat unit options;
  segs = map (λ board. board.segs) unit.boards;
  code = map (λ board. board.code) unit.boards;
  options = options;
}

-- ---- what is asked of an opening

-- how many boards there are: each has its segment registers
abbrev pub board_count : Opening → ℕ
board_count opening = length opening.segs

-- the state in which a run begins: no cache holds anything, and nothing was done yet
abbrev pub first_state : Opening → State
first_state opening = opening_state (board_count opening) opening.options.lines opening.flat

-- no page has a valid entry
abbrev pub IsNothingResident : Flat → Type 0
IsNothingResident F = (page : ℕ) → page < user_pages → is_valid (word_of F (page_address page)) ≡ false
