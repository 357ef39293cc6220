-- What contracts see of the swap objects in memory.
use Rattle.std.specs.Prelude.{ℕ, ◌+◌, List, Some}
use Rattle.spur_io.specs.Calls.{Calls}
use Rattle.spur_swap.specs.Meaning.{Swap}
use Rattle.spur_swap.specs.Pages.{slots_of}

-- the words of all pages, and how many reads and writes there were
pub record Kept : Type 0 where
  pub words : List ℕ
  pub reads : ℕ
  pub writes : ℕ

-- what an object that never fails means
abbrev pub kept_swap : Kept → Swap
kept_swap s = record {
  pages = Some s.words;
  slots = slots_of s.words;
  faults = 0;
  reads = s.reads;
  writes = s.writes;
}

-- the words of all pages, the calls that read a page, and those that write one
pub record Tried : Type 0 where
  pub words : List ℕ
  pub reads : Calls
  pub writes : Calls

-- how many of those calls failed
abbrev pub faults_of : Tried → ℕ
faults_of s = s.reads.faults + s.writes.faults

-- what an object whose calls fail as two lists say means
abbrev pub as_swap : Tried → Swap
as_swap s = record {
  pages = Some s.words;
  slots = slots_of s.words;
  faults = faults_of s;
  reads = s.reads.made;
  writes = s.writes.made;
}
