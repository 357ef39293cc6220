-- What a text says: the relation of a text and its unit. Nothing here reads.
use Rattle.std.specs.Prelude.{◌≡◌, ◌≢◌, ◌⊎◌, ℕ, ◌≤◌, List, [], ◌∷◌, ◌++◌, length, ⊤}
use Rattle.std.specs.List.{All, AllZip, filter_map, flat_map}
use Rattle.spur_object.specs.declared.unit.Unit as units
use Rattle.spur_asm.specs.Item.{Item, Page, Word, Board, SpellsLine}
use Rattle.spur_asm.specs.Section.{page_text_in, word_text_in, SaysBoard}

-- ---- lines

-- these lines, each ended by a line feed (10)
abbrev pub ended : List (List ℕ) → List ℕ
ended lines = flat_map (λ line. line ++ (10 ∷ [])) lines

-- a last line without a line feed, which has one byte at least
pub record EndsOpen (text : List ℕ) (lines : List (List ℕ)) : Type 0 where
  pub front : List (List ℕ)
  pub last : List ℕ
  pub are : lines ≡ front ++ (last ∷ [])
  pub some : last ≢ []
  pub joined : text ≡ ended front ++ last

-- the text is these lines, each ended by a line feed, but for the last, which may lack it; no line has one in it
pub record HasLines (text : List ℕ) (lines : List (List ℕ)) : Type 0 where
  pub joined : (text ≡ ended lines) ⊎ EndsOpen text lines
  pub whole : All (λ line. All (λ b. b ≢ 10) line) lines

-- ---- boards

-- pages and words may stand anywhere, all else behind a `.board`
abbrev pub IsAnywhere : Item → Type 0
IsAnywhere (Page segment place prot) = ⊤
IsAnywhere (Word segment offset value) = ⊤
IsAnywhere other = ⊥

-- the items of each board, behind its `.board`
abbrev pub sections : List (List Item) → List Item
sections parts = flat_map (λ items. Board ∷ items) parts

-- the items are some that stand before all boards, and then the boards' items, each behind its `.board`
pub record HasSections (items front : List Item) (parts : List (List Item)) : Type 0 where
  pub joined : items ≡ front ++ sections parts
  pub anywhere : All IsAnywhere front
  pub whole : All (λ part. All (λ item. item ≢ Board) part) parts

-- ---- the text

-- The text says the unit. Its lines spell labels and statements. The unit's pages and words are those of the text, wherever they stand. Each
-- `.board` begins a board, whose labels and instructions are those up to the next; a label on the line of a `.board` stands before it.
-- There are 1 to 12 boards, at most 2048 pages and at most 65,536 words.
pub record Says (text : List ℕ) (unit : units.Unit) : Type 0 where
  pub lines : List (List ℕ)
  pub items : List (List Item)
  pub front : List Item
  pub parts : List (List Item)
  pub has_lines : HasLines text lines
  pub spelled : AllZip SpellsLine lines items
  pub has_sections : HasSections (flat_map (λ line. line) items) front parts
  pub boards : AllZip SaysBoard parts unit.boards
  pub pages : unit.pages ≡ filter_map page_text_in (flat_map (λ line. line) items)
  pub words : unit.words ≡ filter_map word_text_in (flat_map (λ line. line) items)
  pub some_board : 1 ≤ length unit.boards
  pub few_boards : length unit.boards ≤ 12
  pub few_pages : length unit.pages ≤ 2048
  pub few_words : length unit.words ≤ 65536
