-- The plain memory of a program: its declared pages, each with its protection and the words that it holds at first. No number
-- of frames or of lines is in it.
use Rattle.std.specs.Prelude.{ℕ, List, map}
use Rattle.spur_object.specs.declared.unit.PageText.{PageText}
use Rattle.spur_object.specs.declared.unit.Unit.{Unit as Program}
use Rattle.spur_object.specs.declared.unit.WordText.{WordText}
use Rattle.spur_plain.specs.PlainMemory.{PlainMemory, PlainPage}
use Rattle.spur_loader.specs.Opening.{each_below, page_word}

-- the words of a page: each is that of the last `.word` line that names it, and 0 where none does
unfoldable pub first_words : List WordText → ℕ → List ℕ
first_words words page = each_below 1024 (page_word words page)

abbrev pub first_page : List WordText → PageText → PlainPage
first_page words page = record { page = page.page; protection = page.prot; words = first_words words page.page }

abbrev pub plain_memory_of : Program → PlainMemory
plain_memory_of unit = map (first_page unit.words) unit.pages
