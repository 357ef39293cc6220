-- The ranges of a header, number by number.
use Rattle.std.proofs.Common.{◌≤◌}
use Rattle.spur_trace.specs.declared.head.TraceHead.{TraceHead}
use Rattle.spur_trace.specs.Formed.{IsHead}

pub record HeadRanges (head : TraceHead) : Type 0 where
  pub some_boards : 1 ≤ head.boards
  pub few_boards : head.boards ≤ 12
  pub some_frames : 1 ≤ head.frames
  pub few_frames : head.frames ≤ 3900
  pub some_lines : 16 ≤ head.lines
  pub few_lines : head.lines ≤ 4096

pub ranges : (head : TraceHead) → IsHead head → HeadRanges head
ranges head is = record {
  some_boards = is.ranges.1.0.low;
  few_boards = is.ranges.1.0.high;
  some_frames = is.ranges.1.1.0.low;
  few_frames = is.ranges.1.1.0.high;
  some_lines = is.ranges.1.1.1.0.low;
  few_lines = is.ranges.1.1.1.0.high;
}
