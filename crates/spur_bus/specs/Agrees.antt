-- Caches that agree with each other, and with a memory.
use Rattle.std.specs.Prelude.{ℕ, ◌≡◌, ◌+◌, ◌*◌, ◌/◌, ◌%◌, ◌≤◌, true, List, length, replicate, slice_get, slice_index, Option, Some, None}
use Rattle.spur_cache.specs.declared.line.Line.{Line}
use Rattle.spur_cache.specs.Lines.{IsCache}
use Rattle.spur_snoop.specs.Size.{IsLineCount}
use Rattle.spur_phys.specs.Blocks.{block_start, with_block}
use Rattle.spur_snoop.specs.declared.BlockState.TheVariants.{OwnedExclusive}
use Rattle.spur_snoop.specs.Protocol.{is_owned}
use Rattle.spur_bus.specs.Boards.{line_in}
use Rattle.spur_bus.specs.Logical.{logical_word}

-- Caches agree, as far as that speaks of no memory:
-- 1. there are 1 to 12 of them, each of them a cache, as every `Cache` is;
-- 2. all have the same number of lines;
-- 3. valid lines of one block have one frame;
-- 4. valid lines of two blocks stand at two places of the memory;
-- 5. a block has one owner at most;
-- 6. a block that is OwnedExclusive in one cache is valid in no other.
pub record Agrees (caches : List (List (Option Line))) : Type 0 where
  pub some_caches : 1 ≤ length caches
  pub few_caches : length caches ≤ 12
  pub each : (i : ℕ) (lines : List (Option Line)) → slice_get caches i ≡ Some lines → IsCache lines
  pub sizes : (i j : ℕ) (a b : List (Option Line)) → slice_get caches i ≡ Some a → slice_get caches j ≡ Some b → length a ≡ length b
  pub one_frame : (i j s t : ℕ) (a b : Line) → line_in caches i s ≡ Some a → line_in caches j t ≡ Some b → a.tag ≡ b.tag → a.frame ≡ b.frame
  pub one_place : (i j s t : ℕ) (a b : Line) → line_in caches i s ≡ Some a → line_in caches j t ≡ Some b → a.frame ≡ b.frame → a.tag % 128 ≡ b.tag % 128 → a.tag ≡ b.tag
  pub one_owner : (i j s t : ℕ) (a b : Line) → line_in caches i s ≡ Some a → line_in caches j t ≡ Some b → a.tag ≡ b.tag → is_owned a.state ≡ true → is_owned b.state ≡ true → i ≡ j
  pub exclusive : (i j s t : ℕ) (a b : Line) → line_in caches i s ≡ Some a → line_in caches j t ≡ Some b → a.tag ≡ b.tag → a.state ≡ OwnedExclusive → i ≡ j

-- word k of the memory is one of a line's block
pub record IsAt (k : ℕ) (line : Line) : Type 0 where
  pub frame : k / 1024 ≡ line.frame
  pub position : k / 8 % 128 ≡ line.tag % 128

-- Caches agree with a memory:
-- 7. the frame of each valid line is one of the memory's;
-- 8. the words of each valid line are those of the logical memory.
pub record AgreesWithMemory (caches : List (List (Option Line))) (memory : List ℕ) : Type 0 where
  pub within : (i s : ℕ) (line : Line) → line_in caches i s ≡ Some line → line.frame * 1024 + 1024 ≤ length memory
  pub words : (i s k : ℕ) (line : Line) → line_in caches i s ≡ Some line → IsAt k line → slice_index line.words (k % 8) ≡ logical_word caches memory k

-- n caches of k lines that hold nothing agree, and with every memory: so it all can begin
abbrev pub EmptyAgree : Type 0
EmptyAgree = (n k : ℕ) → 1 ≤ n → n ≤ 12 → IsLineCount k → Agrees (replicate n (replicate k None))

abbrev pub EmptyServe : Type 0
EmptyServe = (n k : ℕ) (memory : List ℕ) → AgreesWithMemory (replicate n (replicate k None)) memory

-- what the memory has of a block that a cache owns is of no account: it may be anything
abbrev pub OwnedIsFree : Type 0
OwnedIsFree = (caches : List (List (Option Line))) (memory words : List ℕ) (i s : ℕ) (line : Line) → Agrees caches → AgreesWithMemory caches memory
    → line_in caches i s ≡ Some line → is_owned line.state ≡ true → AgreesWithMemory caches (with_block memory (block_start line.frame line.tag) words)
