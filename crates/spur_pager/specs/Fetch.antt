-- The block of a page's entry is brought into a board's cache, to be written there.
use Rattle.std.specs.Prelude.{ℕ, ◌≡◌, ◌+◌, ◌≤◌, List, [], ◌++◌, get_or, length, ◌<◌, Option, Some}
use Rattle.std.specs.List.{AllByRecursion}
use Rattle.spur_addr.specs.Address.{table_start}
use Rattle.spur_cache.specs.declared.line.Line.{Line}
use Rattle.spur_flat.specs.declared.flat.Flat.{Flat}
use Rattle.spur_flat.specs.declared.entry.Entry.{Entry}
use Rattle.spur_flat.specs.Blocks.{entry_block, pager_blocks}
use Rattle.spur_flat.specs.State.{IsTagged, tags_after}
use Rattle.spur_bus.specs.Boards.{line_in}
use Rattle.spur_bus.specs.Logical.{logical_words}
use Rattle.spur_bus.specs.Calls.{line_count, tags_of}
use Rattle.spur_walk.specs.Bounds.{page_steps_left}
use Rattle.spur_walk.specs.Laws.{IsServing}
use Rattle.spur_walk.specs.Present.{ArePresent, MayWalk}
use Rattle.spur_walk.specs.Tables.{HasTablesOf, block_address, logical_flat}
use Rattle.spur_flat.specs.Past.{Past}
use Rattle.spur_flat.specs.Formed.{IsMade}
use Rattle.spur_pager.specs.Acts.{Hold, IsFetch, IsWay}

-- cache i had a line of the block with this number
pub record WasThere (caches : List (List (Option Line))) (i tag : ℕ) : Type 0 where
  pub slot : ℕ
  pub line : Line
  pub there : line_in caches i slot ≡ Some line
  pub tag_is : line.tag ≡ tag

-- What steps towards the entry of a page leave: what the walk needs is there again, the logical memory is as it was, and so
-- are the lines of present pages; there is no line of a user's block that was not there. Each entry serves the page and is
-- of a kind that serving makes, there are no more of them than steps were left, and in each flat state with the same tables
-- the tags allow them and move by them.
pub record Leads (b g : ℕ) (from : Hold) (fetched : List Entry) (to : Hold) : Type 0 where
  pub walk : MayWalk to.caches to.memory
  pub logical : logical_words to.caches to.memory ≡ logical_words from.caches from.memory
  pub present : ArePresent (logical_flat from.caches from.memory) from.caches → ArePresent (logical_flat to.caches to.memory) to.caches
  pub user : (i s : ℕ) (line : Line) → line_in to.caches i s ≡ Some line → block_address line.tag < table_start → WasThere from.caches i line.tag
  pub boards : length to.caches ≡ length from.caches
  pub lines : line_count to.caches ≡ line_count from.caches
  pub size : length to.memory ≡ length from.memory
  pub serving : AllByRecursion (IsServing b (line_count from.caches) (pager_blocks g) (Some (entry_block g))) fetched
  pub made : AllByRecursion (IsMade b (length from.caches)) fetched
  pub few : length fetched + page_steps_left (get_or to.caches b []) g ≤ page_steps_left (get_or from.caches b []) g
  pub tagged : (F : Flat) → HasTablesOf F (logical_words from.caches from.memory) → IsTagged F (tags_of from.caches) fetched
  pub tags : (F : Flat) → HasTablesOf F (logical_words from.caches from.memory) → tags_after F (tags_of from.caches) fetched ≡ tags_of to.caches

-- such steps were done, and their entries appended
pub record Went (b g : ℕ) (from : Hold) (before : Past) (to : Hold) (after : Past) : Type 0 where
  pub fetched : List Entry
  pub way : IsWay b g from fetched to
  pub leads : Leads b g from fetched to
  pub entries : after.entries ≡ before.entries ++ fetched
  pub room : after.room + length fetched ≡ before.room

-- such steps were done until the block is exclusive in cache b
pub record Fetches (b g : ℕ) (from : Hold) (before : Past) (to : Hold) (after : Past) : Type 0 where
  pub fetched : List Entry
  pub fetch : IsFetch b g from fetched to
  pub leads : Leads b g from fetched to
  pub entries : after.entries ≡ before.entries ++ fetched
  pub room : after.room + length fetched ≡ before.room
