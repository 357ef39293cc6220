-- The calls of the swap object that were made.
use Rattle.std.specs.Prelude.{ℕ, ◌≡◌, ◌≤◌, Bool, true, false}
use Rattle.spur_addr.specs.PageEntry.{is_dirty}
use Rattle.spur_frames.specs.Clock.{page_of_frame}
use Rattle.spur_swap.specs.Told.{one_call_more}
use Rattle.spur_pager.specs.View.{View}
use Rattle.spur_pager.specs.Stand.{entry_in}

-- a count of calls, where there was one more or none
abbrev pub count_if : Bool → ℕ → ℕ
count_if true calls = one_call_more calls
count_if false calls = calls

-- whether a page was read, and whether one was written, each at most once, failed calls too; and the count of faults did
-- not fall
pub record Counts (read wrote : Bool) (w v : View) : Type 0 where
  pub reads : v.reads ≡ count_if read w.reads
  pub writes : v.writes ≡ count_if wrote w.writes
  pub later : w.faults ≤ v.faults

-- a page was written exactly where it is dirty, and none was read
abbrev pub CountsOut : ℕ → View → View → Type 0
CountsOut page w v = Counts false (is_dirty (entry_in w page)) w v

-- the same of the page of a frame
abbrev pub CountsFinish : ℕ → View → View → Type 0
CountsFinish frame w v = CountsOut (page_of_frame w.frames frame) w v
