-- Which headers and which entries a trace may have.
use Rattle.std.specs.Prelude.{ℕ, ◌≤◌}
use Rattle.std.specs.List.{AllByRecursion}
use Rattle.spur_snoop.specs.Size.{IsLineCount}
use Rattle.spur_flat.specs.declared.entry.Entry.{Entry}
use Rattle.spur_flat.specs.WellFormed.{HasWord, IsWellFormed}
use Rattle.spur_trace.specs.declared.head.TraceHead.{TraceHead}
use Rattle.spur_trace.specs.Line.{HeadField, head_fields}

-- a number is in the range of its field
pub record IsInRange (f : HeadField) : Type 0 where
  pub low : f.least ≤ f.number
  pub high : f.number ≤ f.most

-- each number of the header's line is in its range, and a cache may have so many lines
pub record IsHead (head : TraceHead) : Type 0 where
  pub ranges : AllByRecursion IsInRange (head_fields head)
  pub lines : IsLineCount head.lines

-- a line stands for an entry: it is well formed for so many boards, and its value is a word
pub record IsTraced (boards : ℕ) (e : Entry) : Type 0 where
  pub formed : IsWellFormed boards e
  pub word : HasWord e
