-- A hit that writes.
use Rattle.std.specs.Prelude.{ℕ, ◌≡◌, ◌<◌, List, [], get_or, length, slice_set, Option}
use Rattle.spur_addr.specs.Address.{table_start}
use Rattle.spur_cache.specs.declared.line.Line.{Line}
use Rattle.spur_cache.specs.Lines.{with_word, word_in}
use Rattle.spur_snoop.specs.declared.Need.TheVariants.{Write}
use Rattle.spur_flat.specs.Pager.{word_of}
use Rattle.spur_flat.specs.Table.{place_of}
use Rattle.spur_bus.specs.Boards.{line_of_block}
use Rattle.spur_bus.specs.Logical.{logical_words}
use Rattle.spur_bus.specs.Calls.{line_count, tags_of}
use Rattle.spur_walk.specs.declared.looked.Looked.TheVariants.{Hit}
use Rattle.spur_walk.specs.Look.{look_of}
use Rattle.spur_walk.specs.Present.{ArePresent, MayWalk}
use Rattle.spur_walk.specs.Tables.{logical_flat}

-- caches where the word of g has another value, in the line of its block in cache b
abbrev pub with_word_in : List (List (Option Line)) → ℕ → ℕ → ℕ → List (List (Option Line))
with_word_in caches b g value = slice_set caches b (with_word (get_or caches b []) g value)

-- What a write to the word at `at` in the cache of board b leaves: all that the walk needs, the logical memory with the
-- value at the place of the word, lines of present pages, each tag, the numbers of caches and of lines, and the word of
-- each page's entry. The line has the value, and a write hits again.
pub record Stores (caches : List (List (Option Line))) (memory : List ℕ) (b at value : ℕ) : Type 0 where
  pub walk : MayWalk (with_word_in caches b at value) memory
  pub logical : logical_words (with_word_in caches b at value) memory
      ≡ slice_set (logical_words caches memory) (place_of (logical_flat caches memory) at) value
  pub present : ArePresent (logical_flat caches memory) caches
      → ArePresent (logical_flat (with_word_in caches b at value) memory) (with_word_in caches b at value)
  pub tags : tags_of (with_word_in caches b at value) ≡ tags_of caches
  pub count : length (with_word_in caches b at value) ≡ length caches
  pub lines : line_count (with_word_in caches b at value) ≡ line_count caches
  pub entries : (to : ℕ) → to < table_start
      → word_of (logical_flat (with_word_in caches b at value) memory) to ≡ word_of (logical_flat caches memory) to
  pub word : word_in (line_of_block (with_word_in caches b at value) b at) at ≡ value
  pub hits : look_of (line_of_block (with_word_in caches b at value) b at) Write ≡ Hit

-- so it is where a write hits
abbrev pub HitStores : Type 0
HitStores = (caches : List (List (Option Line))) (memory : List ℕ) (b at value : ℕ) → MayWalk caches memory
    → b < length caches → at < table_start → look_of (line_of_block caches b at) Write ≡ Hit
    → Stores caches memory b at value
