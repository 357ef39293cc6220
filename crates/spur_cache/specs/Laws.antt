-- Laws of the lines of a cache.
use Rattle.std.specs.Prelude.{ℕ, ◌≡◌, ◌/◌, ◌↔◌, List, Option, Some, Contains}
use Rattle.std.specs.List.Sorted.{IsStrictlyIncreasing}
use Rattle.spur_addr.specs.Address.{block_of, page_of}
use Rattle.spur_cache.specs.declared.line.Line.{Line}
use Rattle.spur_cache.specs.Lines.{IsCache, found, line_at, page_lines_of}

-- a block is found where a line of it stands at any place
abbrev pub FoundWhereItStands : Type 0
FoundWhereItStands = (lines : List (Option Line)) (g slot : ℕ) (line : Line) → IsCache lines → line_at lines slot ≡ Some line → line.tag ≡ block_of g → found lines g ≡ Some line

-- and the line that is found is one of the block
abbrev pub FoundHasTheBlock : Type 0
FoundHasTheBlock = (lines : List (Option Line)) (g : ℕ) (line : Line) → found lines g ≡ Some line → line.tag ≡ block_of g

-- a line that holds a block of a page stands at a place
pub record HoldsPage (lines : List (Option Line)) (page slot : ℕ) : Type 0 where
  pub line : Line
  pub stands : line_at lines slot ≡ Some line
  pub of_page : line.tag / 128 ≡ page

-- the places told for a page are those at which such a line stands
abbrev pub PageLinesHoldIt : Type 0
PageLinesHoldIt = (lines : List (Option Line)) (g slot : ℕ) → Contains (page_lines_of lines g) slot ↔ HoldsPage lines (page_of g) slot

-- and they ascend
abbrev pub PageLinesAscend : Type 0
PageLinesAscend = (lines : List (Option Line)) (g : ℕ) → IsStrictlyIncreasing (page_lines_of lines g)
