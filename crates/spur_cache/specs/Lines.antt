-- The lines of a direct-mapped cache: at each place a block, or nothing.
use Rattle.std.specs.Prelude.{ℕ, ◌≡◌, ◌≢◌, ◌+◌, ◌<◌, ◌≤◌, ◌/◌, ◌%◌, ◌^◌, ◌==◌, Bool, true, if◌then◌else◌, List, [], ◌∷◌, length, Option, Some, None, slice_get, slice_set, slice_index}
use Rattle.spur_addr.specs.Address.{block_of, page_of, word_in_block_of}
use Rattle.spur_cache.specs.declared.line.Line.{Line}
use Rattle.spur_snoop.specs.Size.{IsLineCount}
use Rattle.spur_snoop.specs.declared.BlockState.{BlockState}
use Rattle.spur_snoop.specs.declared.BlockState.TheVariants.{Invalid, UnOwned, OwnedNonExclusive, OwnedExclusive}

-- the place of a block, by its number
abbrev pub index_of : List (Option Line) → ℕ → ℕ
index_of lines tag = tag % length lines

-- what may stand at a place, where there is one
abbrev pub joined : Option (Option Line) → Option Line
joined None = None
joined (Some line) = line

-- what stands at a place
abbrev pub line_at : List (Option Line) → ℕ → Option Line
line_at lines slot = joined (slice_get lines slot)

-- a line that a cache may hold: valid, with the number of a block and eight words
pub record IsHeld (line : Line) : Type 0 where
  pub valid : line.state ≢ Invalid
  pub tag : line.tag < 2 ^ 33
  pub words : length line.words ≡ 8

-- a cache has a power of two of places, from 16 to 4096, and each line stands on its place
pub record IsCache (lines : List (Option Line)) : Type 0 where
  pub count : IsLineCount (length lines)
  pub placed : (slot : ℕ) (line : Line) → line_at lines slot ≡ Some line → index_of lines line.tag ≡ slot
  pub held : (slot : ℕ) (line : Line) → line_at lines slot ≡ Some line → IsHeld line

-- the line, if it holds the block with this number
abbrev pub tagged : ℕ → Option Line → Option Line
tagged tag None = None
tagged tag (Some line) = if line.tag == tag then Some line else None

-- the line, if it holds another block
abbrev pub not_tagged : ℕ → Option Line → Option Line
not_tagged tag None = None
not_tagged tag (Some line) = if line.tag == tag then None else Some line

-- what stands at the place of the block of g
abbrev pub occupant : List (Option Line) → ℕ → Option Line
occupant lines g = line_at lines (index_of lines (block_of g))

-- the line of the block of g
abbrev pub found : List (Option Line) → ℕ → Option Line
found lines g = tagged (block_of g) (line_at lines (index_of lines (block_of g)))

-- the line of another block that stands at the place of the block of g
abbrev pub victim_of : List (Option Line) → ℕ → Option Line
victim_of lines g = not_tagged (block_of g) (occupant lines g)

-- the word of g in a line of its block
abbrev pub word_in : Option Line → ℕ → ℕ
word_in None g = 0
word_in (Some line) g = slice_index line.words (word_in_block_of g)

-- the lines with one put in its place, whatever stood there
abbrev pub with_line : List (Option Line) → Line → List (Option Line)
with_line lines line = slice_set lines (index_of lines line.tag) (Some line)

-- what a line in this state leaves at its place: nothing where it is Invalid
abbrev pub left_by : BlockState → Line → Option Line
left_by Invalid line = None
left_by UnOwned line = Some line
left_by OwnedNonExclusive line = Some line
left_by OwnedExclusive line = Some line

-- the lines after one was filled in, valid or not
abbrev pub filled : List (Option Line) → Line → List (Option Line)
filled lines line = slice_set lines (index_of lines line.tag) (left_by line.state line)

-- a line in another state; an invalid one is none
abbrev pub in_state : BlockState → Line → Option Line
in_state Invalid line = None
in_state UnOwned line = Some (record line { state = UnOwned })
in_state OwnedNonExclusive line = Some (record line { state = OwnedNonExclusive })
in_state OwnedExclusive line = Some (record line { state = OwnedExclusive })

-- a line in another state, which is a valid one
abbrev pub in_live_state : BlockState → Line → Line
in_live_state state line = record line { state = state }

-- the lines with that at a place in another state, where there is one
abbrev pub set_found : List (Option Line) → ℕ → BlockState → Option Line → List (Option Line)
set_found lines slot state None = lines
set_found lines slot state (Some line) = slice_set lines slot (in_state state line)

-- the lines with that of the block of g in another state
abbrev pub with_state : List (Option Line) → ℕ → BlockState → List (Option Line)
with_state lines g state = set_found lines (index_of lines (block_of g)) state (found lines g)

-- the lines with that at a place changed, where there is one
abbrev pub changed_found : List (Option Line) → ℕ → (Line → Line) → Option Line → List (Option Line)
changed_found lines slot change None = lines
changed_found lines slot change (Some line) = slice_set lines slot (Some (change line))

-- the lines with that of the block of g changed
abbrev pub changed : List (Option Line) → ℕ → (Line → Line) → List (Option Line)
changed lines g change = changed_found lines (index_of lines (block_of g)) change (found lines g)

-- a line with its copy of the dirty bit set
abbrev pub dirtied : Line → Line
dirtied line = record line { dirty = true }

-- a line with another value in its word n
abbrev pub written : ℕ → ℕ → Line → Line
written n value line = record line { words = slice_set line.words n value }

-- the lines with the dirty copy of the block of g set
abbrev pub with_dirty : List (Option Line) → ℕ → List (Option Line)
with_dirty lines g = changed lines g dirtied

-- the lines with the word of g written
abbrev pub with_word : List (Option Line) → ℕ → ℕ → List (Option Line)
with_word lines g value = changed lines g (written (word_in_block_of g) value)

-- whether a line holds a block of a page, which has 128 blocks in their order
abbrev pub is_of_page : ℕ → Line → Bool
is_of_page page line = line.tag / 128 == page

-- the places of the lines that hold a block of a page, ascending, where the first place is k
abbrev pub page_lines_from : ℕ → ℕ → List (Option Line) → List ℕ
page_lines_from page k [] = []
page_lines_from page k (None ∷ rest) = page_lines_from page (k + 1) rest
page_lines_from page k (Some line ∷ rest) =
    if is_of_page page line then k ∷ page_lines_from page (k + 1) rest else page_lines_from page (k + 1) rest

-- the places of the lines that hold a block of the page of g, ascending
abbrev pub page_lines_of : List (Option Line) → ℕ → List ℕ
page_lines_of lines g = page_lines_from (page_of g) 0 lines

-- all lines of a page stand from `start` on and before `end`
pub record IsSpan (lines : List (Option Line)) (page start end : ℕ) : Type 0 where
  pub ordered : start ≤ end
  pub short : end ≤ start + 128
  pub within : end ≤ length lines
  pub inside : (slot : ℕ) (line : Line) → line_at lines slot ≡ Some line → line.tag / 128 ≡ page → (start ≤ slot) × (slot < end)
