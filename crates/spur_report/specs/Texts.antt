-- The text of a report, each line ended by a line feed. A number is in decimal, with no leading zeros, unless it is said
-- otherwise.
use Rattle.std.specs.Prelude.{ℕ, ◌+◌, Bool, List, [], ◌∷◌, ◌++◌, Option, Some, None, codes, if◌then◌else◌, zero, suc}
use Rattle.std.specs.List.{flat_map}
use Rattle.std.specs.Fmt.{decimal}
use Rattle.spur_flat.specs.declared.access.FaultKind.{FaultKind}
use Rattle.spur_flat.specs.declared.entry.Entry.{Entry}
use Rattle.spur_board.specs.declared.ending.Ending.{Ending}
use Rattle.spur_board.specs.declared.ending.Ending.TheVariants.{Halted, Faulted, Spent, SwapFault}
use Rattle.spur_probe.specs.declared.probe.ProbeLine.{ProbeLine}
use Rattle.spur_text.specs.Digits.{address_digits, word_digits}
use Rattle.spur_text.specs.Line.{feed, line_of}
use Rattle.spur_text.specs.Words.{fault_word}
use Rattle.spur_trace.specs.Line.{trace_text}
use Rattle.spur_report.specs.declared.report.BoardReport.{BoardReport}
use Rattle.spur_report.specs.declared.report.Flags.{Flags}
use Rattle.spur_report.specs.declared.report.Report.{Report}
use Rattle.spur_report.specs.Counts.{Count, all_counts, number_of}

-- the ending of a board that an access at a global address has ended by a fault
abbrev pub fault_text : FaultKind → ℕ → List ℕ
fault_text kind at = codes "faulted " ++ fault_word kind ++ codes " " ++ address_digits at

-- the ending of a board, or that it has not ended
abbrev pub ending_text : Option Ending → List ℕ
ending_text None = codes "running"
ending_text (Some Halted) = codes "halted"
ending_text (Some (Faulted kind at)) = fault_text kind at
ending_text (Some Spent) = codes "spent"
ending_text (Some SwapFault) = codes "swap"

-- the line with what a row is of, its number, its ending, and how many instructions it completed
abbrev pub ending_line : List ℕ → ℕ → BoardReport → List ℕ
ending_line what number row =
    what ++ codes " " ++ decimal number ++ codes " " ++ ending_text row.ending ++ codes " retired " ++ decimal row.retired ++ feed

-- a register, behind a space
abbrev pub spaced_word : ℕ → List ℕ
spaced_word word = codes " " ++ word_digits word

-- the line with a board's registers, from register 0 on
abbrev pub registers_line : ℕ → List ℕ → List ℕ
registers_line number registers = codes "regs " ++ decimal number ++ flat_map spaced_word registers ++ feed

-- the line with a value that a board showed
abbrev pub shown_line : ℕ → ℕ → List ℕ
shown_line number value = codes "shown " ++ decimal number ++ codes " " ++ decimal value ++ feed

-- the lines of a row: its ending, its registers, and each value that it showed
unfoldable pub row_text : List ℕ → ℕ → BoardReport → List ℕ
row_text what number row = ending_line what number row ++ registers_line number row.registers ++ flat_map (shown_line number) row.shown

-- the lines of rows that are counted from a number
abbrev pub rows_text : List ℕ → ℕ → List BoardReport → List ℕ
rows_text what number [] = []
rows_text what number (row ∷ more) = row_text what number row ++ rows_text what (number + 1) more

-- the line that says where a probe stopped the run: the entry's number, and the probe's
abbrev pub stop_line : ℕ → ℕ → List ℕ
stop_line entry probe = codes "stopped " ++ decimal entry ++ codes " " ++ decimal probe ++ feed

abbrev pub stop_text : Option (ℕ × ℕ) → List ℕ
stop_text None = []
stop_text (Some stop) = stop_line stop.0 stop.1

-- the line of a probe: its number in the list, and the number that it tells
abbrev pub probe_line : ℕ → ProbeLine → List ℕ
probe_line number line = codes "probe " ++ decimal number ++ codes " " ++ decimal line.number ++ feed

-- the lines of probes that are counted from a number
abbrev pub probes_text : ℕ → List ProbeLine → List ℕ
probes_text number [] = []
probes_text number (line ∷ more) = probe_line number line ++ probes_text (number + 1) more

-- the line of a count: its name, and how many entries pass its test
abbrev pub count_line : List Entry → Count → List ℕ
count_line entries c = line_of (c.name ∷ decimal (number_of entries c) ∷ [])

-- the lines of the counts of a history
unfoldable pub counts_text : List Entry → List ℕ
counts_text entries = flat_map (count_line entries) all_counts

-- the name of the count at a place, from 0 on
abbrev pub name_in : List Count → ℕ → List ℕ
name_in [] place = []
name_in (c ∷ cs) zero = c.name
name_in (c ∷ cs) (suc place) = name_in cs place

abbrev pub name_at : ℕ → List ℕ
name_at place = name_in all_counts place

-- the lines of numbers that stand at the places of the counts, from a place on
abbrev pub named_line : ℕ → ℕ → List ℕ
named_line place number = line_of (name_at place ∷ decimal number ∷ [])

abbrev pub lines_from : ℕ → List ℕ → List ℕ
lines_from place [] = []
lines_from place (number ∷ numbers) = named_line place number ++ lines_from (place + 1) numbers

-- a part of the text that a flag asks for
abbrev pub part_if : Bool → List ℕ → List ℕ
part_if asked part = if asked then part else []

-- a row for each board
unfoldable pub boards_text : Report → List ℕ
boards_text report = rows_text (codes "board") 0 report.boards

-- the lines of a report: where a probe stopped the run, a row for each board, a line for each probe, and the counts where
-- they are asked for
abbrev pub lines_text : Report → Bool → List ℕ
lines_text report counts =
    stop_text report.stopped ++ boards_text report ++ probes_text 0 report.lines
    ++ part_if counts (counts_text report.history)

-- the text of a report: its lines, and the trace of its history where it is asked for
abbrev pub report_text : Report → Flags → List ℕ
report_text report flags = lines_text report flags.counts ++ part_if flags.trace (trace_text report.head report.history)
