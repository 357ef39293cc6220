-- The logical memory: the words that the caches and the memory have together.
--
-- A place of the memory is a frame and the position of a block in its page, from 0 to 127. Word k of the memory is one of
-- the block at frame k / 1024 and position k / 8 % 128, and is that block's word k % 8.
use Rattle.std.specs.Prelude.{ℕ, ◌/◌, ◌%◌, ◌==◌, ◌&&◌, if◌then◌else◌, List, map, slice_index, Option, Some, None}
use Rattle.spur_cache.specs.declared.line.Line.{Line}
use Rattle.spur_cache.specs.Lens.{Lens, caches}
use Rattle.spur_snoop.specs.Protocol.{is_owned}
use Rattle.spur_phys.specs.Blocks.{block_at, block_place}
use Rattle.spur_flat.specs.TagLines.{each_from}
use Rattle.spur_bus.specs.Boards.{first_some}

-- the words of what stands on a place of a cache, where it owns the block at a place of the memory
abbrev pub owned_words : ℕ → ℕ → Option Line → Option (List ℕ)
owned_words frame position None = None
owned_words frame position (Some line) =
    if is_owned line.state && (line.frame == frame) && (line.tag % 128 == position) then Some line.words else None

-- the words of the owner of the block at a place of the memory, where it is among these lines
abbrev pub owner_in : ℕ → ℕ → List (Option Line) → Option (List ℕ)
owner_in frame position lines = first_some (map (owned_words frame position) lines)

-- the words of the owner of the block at a place of the memory, where a cache owns it
abbrev pub owner_of : ℕ → ℕ → List (List (Option Line)) → Option (List ℕ)
owner_of frame position caches = first_some (map (owner_in frame position) caches)

-- the owner's word, or else the memory's, which is `word` at place k
abbrev pub word_or : Option (List ℕ) → ℕ → ℕ → ℕ
word_or None word k = word
word_or (Some words) word k = slice_index words (k % 8)

-- the word of the logical memory at place k, where the memory has `word`
abbrev pub logical_at : List (List (Option Line)) → ℕ → ℕ → ℕ
logical_at caches k word = word_or (owner_of (k / 1024) (k / 8 % 128) caches) word k

-- word k of the logical memory
abbrev pub logical_word : List (List (Option Line)) → List ℕ → ℕ → ℕ
logical_word caches memory k = logical_at caches k (slice_index memory k)

-- the logical memory, as the list of its words
abbrev pub logical_words : List (List (Option Line)) → List ℕ → List ℕ
logical_words caches memory = each_from (logical_at caches) 0 memory

-- the same of boards
abbrev pub logical_of : {X : Type 0} → Lens X → List X → List ℕ → List ℕ
logical_of lens boards memory = logical_words (caches lens boards) memory

-- the eight words that the block of g has in a frame of the logical memory
abbrev pub logical_block : List (List (Option Line)) → List ℕ → ℕ → ℕ → List ℕ
logical_block caches memory frame g = block_at (logical_words caches memory) (block_place frame g)
