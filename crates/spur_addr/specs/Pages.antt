-- Pages of 1024 words in a list of words, by their number.
use Rattle.std.specs.Prelude.{ℕ, List}
use Rattle.spur_list.specs.Parts.{numbered_part, with_numbered_part}

-- the page with this number
abbrev pub page_at : List ℕ → ℕ → List ℕ
page_at words number = numbered_part words 1024 number

-- the words with this page in the place of the one with this number
abbrev pub with_page : List ℕ → ℕ → List ℕ → List ℕ
with_page words number page = with_numbered_part words 1024 number page
