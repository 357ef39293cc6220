-- What a transaction needs of the caches and of the memory, in the one form that four of the calls have.
use Rattle.std.proofs.Common.{◌≡◌, ◌≢◌, ◌⊎◌, ℕ, ◌+◌, ◌*◌, ◌%◌, ◌<◌, ◌≤◌, ◌==◌, if◌then◌else◌, true, List, length, slice_get, slice_index, Option, Some}
use Rattle.spur_addr.specs.Address.{block_of}
use Rattle.spur_cache.specs.declared.line.Line.{Line}
use Rattle.spur_cache.specs.Lines.{IsHeld, line_at, index_of}
use Rattle.spur_snoop.specs.declared.BlockState.{BlockState}
use Rattle.spur_snoop.specs.declared.BlockState.TheVariants.{Invalid, UnOwned}
use Rattle.spur_snoop.specs.declared.BusKind.{BusKind}
use Rattle.spur_snoop.specs.Protocol.{is_owned, snooped_of}
use Rattle.spur_bus.specs.Boards.{line_in}
use Rattle.spur_bus.specs.Logical.{logical_word}
use Rattle.spur_bus.specs.Agrees.{IsAt}
use Rattle.spur_snoop.specs.declared.BusKind.TheVariants as bus

-- what a transaction is to the block: a read that shares it, one that takes it from all others, or an owner's write to
-- memory
pub data Turn (caches : List (List (Option Line))) (own block : ℕ) (kind : BusKind) (fresh : Line) : Type 0 where
  Shares : kind ≡ bus.ReadShared → fresh.state ≡ UnOwned → ((s : ℕ) (line : Line) → line_in caches own s ≡ Some line → line.tag ≢ block) → Turn caches own block kind fresh
  Takes : ((state : BlockState) → snooped_of state kind ≡ Invalid) → is_owned fresh.state ≡ true → Turn caches own block kind fresh
  Returns : kind ≡ bus.WriteBack → fresh.state ≡ UnOwned → (s : ℕ) (old : Line) → line_in caches own s ≡ Some old → old.tag ≡ block → is_owned old.state ≡ true → Turn caches own block kind fresh

-- a transaction of cache `own` on the block of `at`, after which it has the line `fresh`
pub record MayTurn (caches : List (List (Option Line))) (own at : ℕ) (kind : BusKind) (fresh : Line) : Type 0 where
  pub there : own < length caches
  pub tag : fresh.tag ≡ block_of at
  pub sound : IsHeld fresh
  pub frame : (i s : ℕ) (line : Line) → line_in caches i s ≡ Some line → line.tag ≡ block_of at → line.frame ≡ fresh.frame
  pub place : (i s : ℕ) (line : Line) → line_in caches i s ≡ Some line → line.frame ≡ fresh.frame → line.tag % 128 ≡ fresh.tag % 128 → line.tag ≡ block_of at
  pub turn : Turn caches own (block_of at) kind fresh

-- word k is one of a line's block, and is the line's
pub record IsWritten (line : Line) (memory : List ℕ) (k : ℕ) : Type 0 where
  pub at : IsAt k line
  pub word : slice_index memory k ≡ slice_index line.words (k % 8)

-- what it needs of the words: the new line has those of the logical memory, and no owned line of another block stands on
-- its place; the memory is as it was, but that the block of the new line may be written, and is where an owner returns it
pub record MayMove (caches : List (List (Option Line))) (own at : ℕ) (kind : BusKind) (fresh : Line) (old new : List ℕ) : Type 0 where
  pub within : fresh.frame * 1024 + 1024 ≤ length old
  pub size : length new ≡ length old
  pub words : (k : ℕ) → IsAt k fresh → slice_index fresh.words (k % 8) ≡ logical_word caches old k
  pub victim : (lines : List (Option Line)) (line : Line) → slice_get caches own ≡ Some lines → line_at lines (index_of lines fresh.tag) ≡ Some line → is_owned line.state ≡ true → line.tag ≡ block_of at
  pub memory : (k : ℕ) → (slice_index new k ≡ slice_index old k) ⊎ IsWritten fresh new k
  pub returned : (k : ℕ) → kind ≡ bus.WriteBack → IsAt k fresh → slice_index new k ≡ slice_index fresh.words (k % 8)

-- a line that stood there before, and saw a transaction
abbrev pub state_after : ℕ → BusKind → Line → BlockState
state_after block kind line = if line.tag == block then snooped_of line.state kind else line.state

pub record CameFrom (block : ℕ) (kind : BusKind) (old new : Line) : Type 0 where
  pub tag : new.tag ≡ old.tag
  pub frame : new.frame ≡ old.frame
  pub prot : new.prot ≡ old.prot
  pub dirty : new.dirty ≡ old.dirty
  pub words : new.words ≡ old.words
  pub state : new.state ≡ state_after block kind old
  pub alive : new.state ≢ Invalid
