-- The entry of a page is written, in the cache of a board that has its block alone.
use Rattle.std.specs.Prelude.{ℕ, ◌≡◌, ◌≢◌, ◌<◌, true, List, length, slice_index, slice_set, Option, Some, IsTrue}
use Rattle.spur_addr.specs.Address.{entry_address_of, page_of, table_start}
use Rattle.spur_addr.specs.PageEntry.{is_dirty, is_readable, is_valid, number_of, protection_of}
use Rattle.spur_cache.specs.declared.line.Line.{Line}
use Rattle.spur_flat.specs.declared.flat.Flat.{Flat}
use Rattle.spur_flat.specs.Pager.{entry_place, word_of}
use Rattle.spur_snoop.specs.Protocol.{is_exclusive}
use Rattle.spur_bus.specs.Boards.{line_in}
use Rattle.spur_bus.specs.Logical.{logical_words}
use Rattle.spur_bus.specs.Calls.{HasLine, line_count, tags_of}
use Rattle.spur_walk.specs.Present.{ArePresent, MayWalk}
use Rattle.spur_walk.specs.Tables.{IsPageFrame, block_address, logical_flat, user_roots}

-- an entry suits a line of its page
pub record Suits (e : ℕ) (line : Line) : Type 0 where
  pub valid : is_valid e ≡ true
  pub frame : number_of e ≡ line.frame
  pub prot : protection_of e ≡ line.prot
  pub dirty : line.dirty ≡ true → is_dirty e ≡ true

-- An entry that may be written for the page of g: it is readable, it suits each line of the page, and where it is valid, it
-- has a frame of its own.
pub record MayWrite (F : Flat) (caches : List (List (Option Line))) (g e : ℕ) : Type 0 where
  pub readable : IsTrue (is_readable e)
  pub suits : (i s : ℕ) (line : Line) → line_in caches i s ≡ Some line → block_address line.tag < table_start → page_of (block_address line.tag) ≡ page_of g → Suits e line
  pub frame : is_valid e ≡ true → IsPageFrame F (number_of e)
  pub apart : is_valid e ≡ true → (to : ℕ) → to < table_start → page_of to ≢ page_of g → is_valid (word_of F to) ≡ true → number_of (word_of F to) ≢ number_of e
  pub table : is_valid e ≡ true → (r : ℕ) → r < user_roots → is_valid (slice_index F.words r) ≡ true → number_of e ≢ number_of (slice_index F.words r)

-- What it leaves: the logical memory has the entry at its one place, what the walk needs is there again, lines of present
-- pages are, and no tag moves. The block is still exclusive there.
pub record WritesEntry (before : List (List (Option Line))) (memory : List ℕ) (b g e : ℕ) (after : List (List (Option Line))) : Type 0 where
  pub walk : MayWalk after memory
  pub words : logical_words after memory ≡ slice_set (logical_words before memory) (entry_place (logical_flat before memory) g) e
  pub present : ArePresent (logical_flat before memory) before → ArePresent (logical_flat after memory) after
  pub tags : tags_of after ≡ tags_of before
  pub boards : length after ≡ length before
  pub lines : line_count after ≡ line_count before
  pub exclusive : HasLine after b (entry_address_of g) is_exclusive
