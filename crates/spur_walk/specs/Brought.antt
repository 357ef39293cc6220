-- Which lines a step of the walk brings in.
use Rattle.std.specs.Prelude.{ℕ, ◌≡◌, ◌<◌, ◌&&◌, ◌⊎◌, not, true, List, length, Option, Some}
use Rattle.spur_addr.specs.Address.{entry_address_of, table_start}
use Rattle.spur_addr.specs.PageEntry.{is_leaving, is_valid}
use Rattle.spur_cache.specs.declared.line.Line.{Line}
use Rattle.spur_snoop.specs.declared.Need.{Need}
use Rattle.spur_flat.specs.Pager.{word_of}
use Rattle.spur_bus.specs.Boards.{line_in}
use Rattle.spur_walk.specs.Plan.{access_plan, page_plan}
use Rattle.spur_walk.specs.Present.{MayWalk}
use Rattle.spur_walk.specs.Steps.{stepped}
use Rattle.spur_walk.specs.Tables.{block_address, logical_flat, root_at}

-- the page of g is in its frame, and is to stay there
abbrev pub StaysInFrame : List (List (Option Line)) → List ℕ → ℕ → Type 0
StaysInFrame caches memory g =
    (is_valid (word_of (logical_flat caches memory) g)
    && not (is_leaving (word_of (logical_flat caches memory) g))) ≡ true

-- a line of the same block stood at the same place
pub record HadBlock (caches : List (List (Option Line))) (i s : ℕ) (line : Line) : Type 0 where
  pub old : Line
  pub there : line_in caches i s ≡ Some old
  pub tag : old.tag ≡ line.tag

-- each line of a user's page after a planned step: its page is in its frame and is to stay, or a line of its block was
-- there
abbrev pub BringsStaying : List (List (Option Line)) → List ℕ → List (List (Option Line)) → Type 0
BringsStaying caches memory after = (i s : ℕ) (line : Line) → line_in after i s ≡ Some line
    → block_address line.tag < table_start
    → StaysInFrame caches memory (block_address line.tag) ⊎ HadBlock caches i s line

-- so it is after a step of `advance`
abbrev pub StepBringsStaying : Type 0
StepBringsStaying = (caches : List (List (Option Line))) (memory : List ℕ) (b at : ℕ) (need : Need)
    → MayWalk caches memory → b < length caches → at < table_start
    → BringsStaying caches memory (stepped caches memory b at (access_plan caches memory b at need))

-- and after one of `advance_entry`
abbrev pub PageStepBringsStaying : Type 0
PageStepBringsStaying = (caches : List (List (Option Line))) (memory : List ℕ) (b page : ℕ) → MayWalk caches memory
    → b < length caches → page < table_start → is_valid (root_at (logical_flat caches memory) page) ≡ true
    → BringsStaying caches memory (stepped caches memory b (entry_address_of page) (page_plan caches memory b page))
