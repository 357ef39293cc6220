-- What the calls of the bus need, and what they give.
use Rattle.std.specs.Prelude.{ℕ, ◌≡◌, ◌+◌, ◌*◌, ◌%◌, ◌≤◌, Bool, true, false, if◌then◌else◌, map, get_or, List, [], length, Option, Some, None}
use Rattle.spur_addr.specs.Address.{block_of}
use Rattle.spur_cache.specs.declared.line.Line.{Line}
use Rattle.spur_cache.specs.Lines.{occupant}
use Rattle.spur_snoop.specs.declared.BlockState.{BlockState}
use Rattle.spur_snoop.specs.declared.BlockState.TheVariants.{UnOwned, OwnedExclusive}
use Rattle.spur_snoop.specs.declared.BusKind.TheVariants as bus
use Rattle.spur_snoop.specs.declared.Need.{Need}
use Rattle.spur_snoop.specs.Protocol.{is_owned}
use Rattle.spur_phys.specs.Blocks.{block_place, with_block}
use Rattle.spur_flat.specs.declared.flat.Flat.{Flat}
use Rattle.spur_flat.specs.declared.tag.Tag.{Tag}
use Rattle.spur_flat.specs.declared.entry.Layer.{Layer}
use Rattle.spur_flat.specs.declared.entry.Entry.{Entry}
use Rattle.spur_flat.specs.TagLines.{filled_state, fresh_tag, kind_of, tags_on}
use Rattle.spur_bus.specs.declared.place.Place.{Place}
use Rattle.spur_bus.specs.Boards.{line_in, line_of_block, restated, turned}
use Rattle.spur_bus.specs.Logical.{logical_block, logical_words}
use Rattle.spur_bus.specs.Agrees.{AgreesWithMemory}

-- cache b has the block of g, in a state that passes a test
pub record HasLine (caches : List (List (Option Line))) (b g : ℕ) (test : BlockState → Bool) : Type 0 where
  pub line : Line
  pub there : line_of_block caches b g ≡ Some line
  pub passes : test line.state ≡ true

-- board b may read the block of g from a frame: the frame is one of the memory's; the cache lacks the block, and its line
-- holds no owned block; valid lines of the block have that frame, and no valid line of another block stands at the place
pub record MayRead (caches : List (List (Option Line))) (memory : List ℕ) (b g frame : ℕ) : Type 0 where
  pub room : frame * 1024 + 1024 ≤ length memory
  pub lacks : line_of_block caches b g ≡ None
  pub victim : (line : Line) → occupant (get_or caches b []) g ≡ Some line → is_owned line.state ≡ false
  pub one_frame : (i s : ℕ) (line : Line) → line_in caches i s ≡ Some line → line.tag ≡ block_of g → line.frame ≡ frame
  pub one_place : (i s : ℕ) (line : Line) → line_in caches i s ≡ Some line → line.frame ≡ frame → line.tag % 128 ≡ block_of g % 128 → line.tag ≡ block_of g

-- the line that a read puts in the cache
abbrev pub read_line : ℕ → BlockState → Place → List ℕ → Line
read_line g state place words = record { tag = block_of g; state = state; frame = place.frame; prot = place.prot; dirty = place.dirty; words = words }

-- the caches after board b read the block of g from a place, to be read or to be written
abbrev pub read_caches : List (List (Option Line)) → List ℕ → ℕ → Need → ℕ → Place → List (List (Option Line))
read_caches caches memory b need g place =
    turned caches b g (kind_of need) (read_line g (filled_state need) place (logical_block caches memory place.frame g))

-- the caches after board b claimed the block of g, and after it wrote it back
abbrev pub claimed : List (List (Option Line)) → ℕ → ℕ → List (List (Option Line))
claimed caches b g = restated caches b g bus.Claim OwnedExclusive

abbrev pub shared_again : List (List (Option Line)) → ℕ → ℕ → List (List (Option Line))
shared_again caches b g = restated caches b g bus.WriteBack UnOwned

-- the words of a line, where there is one
abbrev pub words_of : Option Line → List ℕ
words_of None = []
words_of (Some line) = line.words

-- the memory after the block of g was written from this line to the line's own frame
abbrev pub written_back : List ℕ → ℕ → Option Line → List ℕ
written_back memory g None = memory
written_back memory g (Some line) = with_block memory (block_place line.frame g) line.words

-- the memory after the block of g was flushed, of which this is the line: it is written where it is owned
abbrev pub flushed : List ℕ → ℕ → Option Line → List ℕ
flushed memory g None = memory
flushed memory g (Some line) = if is_owned line.state then with_block memory (block_place line.frame g) line.words else memory

-- a line without its words
abbrev pub tag_of : Line → Tag
tag_of line = record { block = line.tag; state = line.state; frame = line.frame; prot = line.prot; dirty = line.dirty }

abbrev pub line_tag : Option Line → Option Tag
line_tag None = None
line_tag (Some line) = Some (tag_of line)

abbrev pub cache_tags : List (Option Line) → List (Option Tag)
cache_tags lines = map line_tag lines

-- the tags of caches, board by board and line by line
abbrev pub tags_of : List (List (Option Line)) → List (List (Option Tag))
tags_of caches = map cache_tags caches

-- the tags move by the tag step of an entry, in every flat state
abbrev pub MovesTags : List (List (Option Line)) → List (List (Option Line)) → Entry → Type 0
MovesTags before after entry = (F : Flat) → tags_of after ≡ tags_on F (tags_of before) entry

-- the tag that a fill at `at` gives in a flat state has the frame, the protection and the dirty copy of a place
pub record Gives (F : Flat) (layer : Layer) (need : Need) (at : ℕ) (place : Place) : Type 0 where
  pub frame : (fresh_tag F layer need at).frame ≡ place.frame
  pub prot : (fresh_tag F layer need at).prot ≡ place.prot
  pub dirty : (fresh_tag F layer need at).dirty ≡ place.dirty

-- the tags move by the tag step of a fill, in every flat state in which it gives the line these three
abbrev pub MovesTagsAs : List (List (Option Line)) → List (List (Option Line)) → Entry → Layer → Need → ℕ → Place → Type 0
MovesTagsAs before after entry layer need at place = (F : Flat) → Gives F layer need at place → tags_of after ≡ tags_on F (tags_of before) entry

-- caches that agreed with a memory agree with the new one, and the logical memory is kept at every place
pub record KeepsWords (before after : List (List (Option Line))) (old new : List ℕ) : Type 0 where
  pub serves : AgreesWithMemory after new
  pub logical : logical_words after new ≡ logical_words before old

-- that, for every memory with which the caches agree
abbrev pub KeepsAllWords : List (List (Option Line)) → List (List (Option Line)) → Type 0
KeepsAllWords before after = (memory : List ℕ) → AgreesWithMemory before memory → KeepsWords before after memory memory

-- the number of lines of a cache, of which all have the same
abbrev pub line_count : List (List (Option Line)) → ℕ
line_count caches = length (get_or caches 0 [])
