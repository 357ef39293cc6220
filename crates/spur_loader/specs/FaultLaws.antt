-- The faults of a unit in plain words.
use Rattle.std.specs.Prelude.{◌≡◌, ◌≢◌, ◌↔◌, ◌⊎◌, ℕ, ◌<◌, ◌≤◌, List, Some, None, slice_get, [], length}
use Rattle.std.specs.List.{All, Any}
use Rattle.spur_addr.specs.Address.{page_of, table_start, user_pages}
use Rattle.spur_object.specs.Limits.{IsUnit}
use Rattle.spur_object.specs.declared.unit.Unit.{Unit as Program}
use Rattle.spur_object.specs.declared.unit.PageText.{PageText}
use Rattle.spur_object.specs.declared.unit.WordText.{WordText}
use Rattle.spur_loader.specs.declared.fault.LoadFault.TheVariants.{Segment255}
use Rattle.spur_loader.specs.Faults.{first_again, first_outside, segment_fault}

-- ---- segment 255

-- a segment register names it, or a page is in it, or a word
abbrev pub NamesTableSegment : Program → Type 0
NamesTableSegment unit =
    Any (λ board. Any (λ seg. seg ≡ 255) board.segs) unit.boards
    ⊎ Any (λ page. user_pages ≤ page.page) unit.pages
    ⊎ Any (λ word. table_start ≤ word.at) unit.words

-- all registers, pages and words are below it
pub record IsBelowTableSegment (unit : Program) : Type 0 where
  pub registers : All (λ board. All (λ seg. seg < 255) board.segs) unit.boards
  pub pages : All (λ page. page.page < user_pages) unit.pages
  pub words : All (λ word. word.at < table_start) unit.words

abbrev pub TableSegmentIsNamed : Type 0
TableSegmentIsNamed = (unit : Program) → IsUnit unit → (segment_fault unit ≡ Some Segment255) ↔ NamesTableSegment unit

abbrev pub NoneNamesTableSegment : Type 0
NoneNamesTableSegment = (unit : Program) → IsUnit unit → (segment_fault unit ≡ None) ↔ IsBelowTableSegment unit

-- ---- a page that is declared again

-- no two of the first so many pages have the same number
pub record AreOnce (pages : List PageText) (count : ℕ) : Type 0 where
  pub apart : (i j : ℕ) (x y : PageText) → i < count → j < count → slice_get pages i ≡ Some x → slice_get pages j ≡ Some y
      → x.page ≡ y.page → i ≡ j

-- a page is the first that is declared again: a page before it has its number, and the pages before it differ
pub record IsFirstAgain (pages : List PageText) (page : PageText) : Type 0 where
  pub position : ℕ
  pub at : slice_get pages position ≡ Some page
  pub earlier : ℕ
  pub before : earlier < position
  pub other : PageText
  pub there : slice_get pages earlier ≡ Some other
  pub same : other.page ≡ page.page
  pub once : AreOnce pages position

abbrev pub AgainIsFirst : Type 0
AgainIsFirst = (pages : List PageText) (page : PageText) → first_again [] pages ≡ Some page → IsFirstAgain pages page

-- and none is declared again exactly where all differ
abbrev pub NoneAgain : Type 0
NoneAgain = (pages : List PageText) → (first_again [] pages ≡ None) ↔ AreOnce pages (length pages)

-- ---- a word outside

-- the page of a word is declared
abbrev pub IsInside : List PageText → WordText → Type 0
IsInside pages word = Any (λ page. page.page ≡ page_of word.at) pages

-- a word is the first outside: no page has its number, and the pages of the words before it are declared
pub record IsFirstOutside (pages : List PageText) (words : List WordText) (word : WordText) : Type 0 where
  pub position : ℕ
  pub at : slice_get words position ≡ Some word
  pub outside : All (λ page. page.page ≢ page_of word.at) pages
  pub before : (i : ℕ) (other : WordText) → i < position → slice_get words i ≡ Some other → IsInside pages other

abbrev pub OutsideIsFirst : Type 0
OutsideIsFirst = (pages : List PageText) (words : List WordText) (word : WordText)
    → first_outside pages words ≡ Some word → IsFirstOutside pages words word

-- and none is outside exactly where the page of each is declared
abbrev pub NoneOutside : Type 0
NoneOutside = (pages : List PageText) (words : List WordText) → (first_outside pages words ≡ None) ↔ All (IsInside pages) words
