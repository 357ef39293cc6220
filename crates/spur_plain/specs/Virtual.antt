-- The plain memory that a flat state stands for: each declared page with the words of its frame where it is in one, and else
-- with those of its swap slot.
use Rattle.std.specs.Prelude.{ℕ, if◌then◌else◌, List, map}
use Rattle.spur_addr.specs.Address.{page_address}
use Rattle.spur_addr.specs.PageEntry.{is_valid, number_of, protection_of}
use Rattle.spur_addr.specs.Pages.{page_at}
use Rattle.spur_flat.specs.declared.flat.Flat.{Flat}
use Rattle.spur_flat.specs.Pager.{swap_slot_of, word_of}
use Rattle.spur_plain.specs.PlainMemory.{PlainPage, PlainMemory}

-- the words of a page under its entry
abbrev pub words_under : Flat → ℕ → ℕ → List ℕ
words_under F page entry =
    if is_valid entry then page_at F.words (number_of entry) else page_at F.swap (swap_slot_of F (page_address page))

abbrev pub virtual_page : Flat → ℕ → PlainPage
virtual_page F page = record {
  page = page;
  protection = protection_of (word_of F (page_address page));
  words = words_under F page (word_of F (page_address page));
}

abbrev pub virtual : Flat → PlainMemory
virtual F = map (virtual_page F) F.pages
