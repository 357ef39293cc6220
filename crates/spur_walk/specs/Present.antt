-- Lines and present pages.
use Rattle.std.specs.Prelude.{ℕ, ◌≡◌, ◌<◌, ◌≤◌, true, false, List, slice_index, Option, Some}
use Rattle.spur_addr.specs.Address.{table_start, root_start}
use Rattle.spur_addr.specs.PageEntry.{is_valid, is_dirty, number_of, protection_of}
use Rattle.spur_cache.specs.declared.line.Line.{Line}
use Rattle.spur_snoop.specs.Protocol.{is_owned}
use Rattle.spur_flat.specs.declared.flat.Flat.{Flat}
use Rattle.spur_flat.specs.Blocks.{root_word_of, wired_frame}
use Rattle.spur_flat.specs.Pager.{word_of}
use Rattle.spur_bus.specs.Boards.{line_in}
use Rattle.spur_bus.specs.Agrees.{Agrees, AgreesWithMemory}
use Rattle.spur_walk.specs.Tables.{logical_flat, HasTables, StandsIn, block_address}

-- each valid line is of a page whose entry is valid and has the line's frame, or is of the root and has its wired frame
abbrev pub AreMapped : Flat → List (List (Option Line)) → Type 0
AreMapped F caches = (i s : ℕ) (line : Line) → line_in caches i s ≡ Some line → StandsIn F line.tag line.frame

-- what the walk needs, and leaves: caches that agree with each other and with the memory, tables of the logical memory
-- that can be walked, and lines that are mapped by them
pub record MayWalk (caches : List (List (Option Line))) (memory : List ℕ) : Type 0 where
  pub agree : Agrees caches
  pub serves : AgreesWithMemory caches memory
  pub tables : HasTables (logical_flat caches memory)
  pub mapped : AreMapped (logical_flat caches memory) caches

-- a line is of a present page: the page's entry is valid, with the line's frame and protection; and where the line's dirty
-- copy is set, the entry is dirty
pub record IsPresent (F : Flat) (line : Line) : Type 0 where
  pub valid : is_valid (word_of F (block_address line.tag)) ≡ true
  pub frame : number_of (word_of F (block_address line.tag)) ≡ line.frame
  pub prot : protection_of (word_of F (block_address line.tag)) ≡ line.prot
  pub dirty : line.dirty ≡ true → is_dirty (word_of F (block_address line.tag)) ≡ true

-- The caches and present pages: every valid line of a user's page is of a present page; one of the page table has the frame
-- of its root entry, of which nothing more is said here (that it is valid is part of `AreMapped`), and one of the root its
-- wired frame; and no line of the root is owned.
pub record ArePresent (F : Flat) (caches : List (List (Option Line))) : Type 0 where
  pub user : (i s : ℕ) (line : Line) → line_in caches i s ≡ Some line → block_address line.tag < table_start → IsPresent F line
  pub table : (i s : ℕ) (line : Line) → line_in caches i s ≡ Some line → table_start ≤ block_address line.tag → block_address line.tag < root_start
      → number_of (slice_index F.words (root_word_of (block_address line.tag))) ≡ line.frame
  pub root : (i s : ℕ) (line : Line) → line_in caches i s ≡ Some line → root_start ≤ block_address line.tag → line.frame ≡ wired_frame (block_address line.tag)
  pub unowned : (i s : ℕ) (line : Line) → line_in caches i s ≡ Some line → root_start ≤ block_address line.tag → is_owned line.state ≡ false
