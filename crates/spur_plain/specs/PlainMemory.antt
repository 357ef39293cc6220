-- Plain memory: declared pages, each with its protection and its words. There are no frames, no swap and no page table, and
-- each access has one answer.
use Rattle.std.specs.Prelude.{ℕ, ◌≡◌, ◌/◌, ◌%◌, ◌^◌, ◌==◌, ◌&&◌, Bool, if◌then◌else◌, Option, Some, None, List, [], slice_index, slice_set, length, map, All}
use Rattle.std.specs.List.{find}
use Rattle.spur_addr.specs.Address.{is_aligned, page_of}
use Rattle.spur_addr.specs.declared.page_entry.Protection.{Protection as Allowance}
use Rattle.spur_flat.specs.declared.access.AccessKind.{AccessKind}
use Rattle.spur_flat.specs.declared.access.FaultKind.{FaultKind}
use Rattle.spur_flat.specs.declared.access.FaultKind.TheVariants.{Align, Unmapped, Protection}
use Rattle.spur_flat.specs.Access.{grants}

-- a page: its number, what it allows, and its words
pub record PlainPage : Type 0 where
  pub page : ℕ
  pub protection : Allowance
  pub words : List ℕ

abbrev pub PlainMemory : Type 0
PlainMemory = List PlainPage

-- the place of an address's word in its page
abbrev pub word_in_page : ℕ → ℕ
word_in_page g = g / 2 ^ 2 % 1024

-- the page of an address, if it is declared
abbrev pub plain_page : PlainMemory → ℕ → Option PlainPage
plain_page M g = find (λ p. p.page == page_of g) M

-- what an aligned access to a page is answered, and one to a page that is not declared: no fault means that it is done
abbrev pub page_answer : Option PlainPage → AccessKind → Option FaultKind
page_answer None access = Some Unmapped
page_answer (Some p) access = if grants p.protection access then None else Some Protection

-- the one answer of an access
abbrev pub plain_answer : PlainMemory → AccessKind → ℕ → Option FaultKind
plain_answer M access g = if is_aligned g then page_answer (plain_page M g) access else Some Align

-- the words of a page, if there is one
abbrev pub page_words : Option PlainPage → List ℕ
page_words None = []
page_words (Some p) = p.words

-- the word of an address
abbrev pub plain_word : PlainMemory → ℕ → ℕ
plain_word M g = slice_index (page_words (plain_page M g)) (word_in_page g)

-- a page with another word at an address, where the address is in it
abbrev pub page_with : ℕ → ℕ → PlainPage → PlainPage
page_with g value p = if p.page == page_of g then record p { words = slice_set p.words (word_in_page g) value } else p

-- plain memory with another word at an address
abbrev pub plain_with : PlainMemory → ℕ → ℕ → PlainMemory
plain_with M g value = map (page_with g value) M

-- whether two addresses are of one word
abbrev pub same_word : ℕ → ℕ → Bool
same_word g h = (page_of g == page_of h) && (word_in_page g == word_in_page h)

-- each page has 1024 words
abbrev pub AreWhole : PlainMemory → Type 0
AreWhole M = All (λ p. length p.words ≡ 1024) M
