-- Reports of runs with plain processors: one for the code of each board, and a row for each board.
use Rattle.std.specs.Prelude.{◌≡◌, ℕ, IsSome, List, length, map}
use Rattle.std.specs.List.{All, AllZip}
use Rattle.spur_flat.specs.WellFormed.{IsWellFormed}
use Rattle.spur_swap.specs.Meaning.{Swap}
use Rattle.spur_cpu.specs.declared.plain.PlainCpu.{PlainCpu}
use Rattle.spur_cpu.specs.Plain.{Plain, opened, plain}
use Rattle.spur_cpu.specs.PlainCpus.{plain_of, room_of}
use Rattle.spur_loader.specs.declared.opening.Opening.{Opening}
use Rattle.spur_board.specs.declared.board.Board.{Board}
use Rattle.spur_board.specs.Boards.{course_ending}
use Rattle.spur_core.specs.Begin.{IsBeginning}
use Rattle.spur_core.specs.Boards.{is_swapped}
use Rattle.spur_core.specs.Start.{Start}
use Rattle.spur_core.specs.Step.{Runner}
use Rattle.spur_loader.specs.Opening.{board_count}
use Rattle.spur_trace.specs.declared.head.TraceHead.{TraceHead}
use Rattle.spur_trace.specs.Formed.{IsHead}
use Rattle.spur_check.specs.declared.verdict.Verdict.TheVariants.{Good}
use Rattle.spur_check.specs.Judged.{judged}
use Rattle.spur_probe.specs.Shown.{Told}
use Rattle.spur_report.specs.declared.report.BoardReport.{BoardReport}
use Rattle.spur_report.specs.declared.report.Report.{Report}
use Rattle.spur_words.specs.declared.task.Order.{Order}
use Rattle.spur_program.specs.declared.plain.Prepared.{Prepared}
use Rattle.spur_program.specs.declared.plain.Reported.{Reported}
use Rattle.spur_program.specs.declared.run.Finished.{Finished}
use Rattle.spur_program.specs.Headline.{IsRunOf, Run}
use Rattle.spur_program.specs.Probes.{AreShown, stop_number}
use Rattle.spur_program.specs.Runs.{FollowsOrder}

-- the beginning of a run of the codes of an opening, where the swap has counted so many faults
abbrev pub plain_start : Opening → ℕ → Start Plain
plain_start opening faults =
    record { flat = opening.flat; segs = opening.segs; options = opening.options; firsts = map opened opening.code; faults = faults }

-- what the row of a board shows of how it came out: the ending is that of its program, or the swap's
pub record ShowsBoard (row : BoardReport) (board : Runner Plain) : Type 0 where
  pub program : course_ending row.ending ≡ board.course.ending
  pub swap : is_swapped row.ending ≡ board.swapped
  pub retired : row.retired ≡ board.course.retired
  pub registers : row.registers ≡ board.course.cpu.registers
  pub shown : row.shown ≡ board.course.cpu.shown

-- what a report, and the swap object at the end, say of a run of these boards
abbrev pub run_in : Report → List (Runner Plain) → Swap → Run Plain
run_in report boards now = record {
  history = report.history;
  boards = boards;
  memory = report.last;
  swap = now.pages;
  faults = now.faults;
  stop = stop_number report.stopped;
}

-- what a trace of a run says of itself in its first line
abbrev pub head_of : Opening → TraceHead
head_of opening = record { boards = board_count opening; frames = opening.options.frames; lines = opening.options.lines }

-- the report of a run of the codes of an opening
pub record IsReportOf (opening : Opening) (order : Order) (before now : Swap) (report : Report) : Type 0 where
  -- how each board came out, and its row
  pub boards : List (Runner Plain)
  pub rows : AllZip ShowsBoard report.boards boards
  -- its trace has the opening's number of boards, and the frames and lines of its options
  pub head : report.head ≡ head_of opening
  -- what came of the run of these boards, and in which order they took their steps
  pub run : IsRunOf plain (plain_start opening before.faults) (run_in report boards now)
  pub followed : FollowsOrder plain order (plain_start opening before.faults) (run_in report boards now)

-- The report of a run of the codes of an opening, with what probes were shown of it: its trace may be written, and is
-- judged good where the swap tells its pages.
pub record IsReportedRun (opening : Opening) (order : Order) (probes : List Told) (before now : Swap) (report : Report)
    : Type 0 where
  pub reports : IsReportOf opening order before now report
  pub shown : AreShown order probes report.history report.stopped report.lines
  pub head : IsHead report.head
  pub entries : All (IsWellFormed report.head.boards) report.history
  pub good : IsSome now.pages → judged opening report.history ≡ Good (length report.history)

-- ---- how a report is made

-- What is made ready for a run of the codes of an opening: the header of its trace, the opening without its codes, and
-- a processor for each code.
pub record IsPrepared (opening : Opening) (ready : Prepared) : Type 0 where
  pub head : ready.head ≡ head_of opening
  pub bare : ready.opening ≡ record opening { code = ready.opening.code }
  pub begins : IsBeginning plain plain_of room_of ready.opening ready.cpus.items
  pub states : map plain_of ready.cpus.items ≡ map opened opening.code

-- what a report says of a board
abbrev pub report_row : Board PlainCpu → BoardReport
report_row b = record { ending = b.ended; retired = b.retired; registers = (plain_of b.cpu).registers; shown = (plain_of b.cpu).shown }

-- what a report says of boards that were run, of what they shared and of what probes have seen; the swap stays
pub record IsReportFrom {B : Type 0} (head : TraceHead) (ran : Finished PlainCpu B) (done : Reported B) : Type 0 where
  pub boards : done.report.boards ≡ map report_row ran.boards.items
  pub history : done.report.history ≡ ran.store.history.entries
  pub last : done.report.last ≡ ran.store.phys
  pub stopped : done.report.stopped ≡ ran.seen.stopped
  pub lines : done.report.lines ≡ ran.seen.lines.items
  pub head_is : done.report.head ≡ head
  pub swap : done.backing ≡ ran.store.backing
