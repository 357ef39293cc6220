-- The limits of a unit: how many parts it may have, and in which ranges its numbers are.
use Rattle.std.specs.Prelude.{◌≡◌, ◌%◌, ◌^◌, ◌<◌, ◌≤◌, length}
use Rattle.std.specs.List.{All}
use Rattle.spur_isa.specs.Ranges.{IsInstr}
use Rattle.spur_object.specs.declared.unit.BoardText.{BoardText}
use Rattle.spur_object.specs.declared.unit.PageText.{PageText}
use Rattle.spur_object.specs.declared.unit.WordText.{WordText}
use Rattle.spur_object.specs.declared.unit.Unit as units

-- a board has four segment registers of 8 bits, and at most 4096 instructions
pub record IsBoard (board : BoardText) : Type 0 where
  pub four : length board.segs ≡ 4
  pub segs : All (λ seg. seg < 256) board.segs
  pub few : length board.code ≤ 4096
  pub code : All IsInstr board.code

-- a page's number: 256 segments of 2 ^ 18 pages each
abbrev pub IsPage : PageText → Type 0
IsPage page = page.page < 2 ^ 26

-- a word's first byte stands at a multiple of 4 in the global address space, and its value has 32 bits
pub record IsWord (word : WordText) : Type 0 where
  pub aligned : word.at % 4 ≡ 0
  pub below : word.at < 2 ^ 38
  pub value : word.value < 2 ^ 32

-- the parts of a unit are few enough, and each is in its ranges
pub record IsUnit (unit : units.Unit) : Type 0 where
  pub some_board : 1 ≤ length unit.boards
  pub few_boards : length unit.boards ≤ 12
  pub few_pages : length unit.pages ≤ 2048
  pub few_words : length unit.words ≤ 65536
  pub boards : All IsBoard unit.boards
  pub pages : All IsPage unit.pages
  pub words : All IsWord unit.words
