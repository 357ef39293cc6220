-- What the top call answers, and why.
use Rattle.std.specs.Prelude.{◌≡◌, ◌≢◌, IsSome, IsSomeAnd, ◌⊎◌, ℕ, ◌+◌, Bool, true, false, List, [], length, Option, Some, None, Result, Ok, Err, if◌then◌else◌}
use Rattle.std.specs.List.{list_all}
use Rattle.spur_io.specs.Told.{Loses, LosesAtMost, Gains, GainsFront}
use Rattle.spur_swap.specs.Meaning.{Swap}
use Rattle.spur_object.specs.Fields.{object_bytes}
use Rattle.spur_object.specs.declared.unit.Unit.{Unit as Program}
use Rattle.spur_cpu.specs.Plain.{plain}
use Rattle.spur_board.specs.declared.ending.Ending.{Ending}
use Rattle.spur_board.specs.declared.ending.Ending.TheVariants as ending
use Rattle.spur_loader.specs.declared.opening.Opening.{Opening}
use Rattle.spur_loader.specs.declared.opening.Options.{Options}
use Rattle.spur_loader.specs.Opening.{opening_of}
use Rattle.spur_probe.specs.Shown.{Told}
use Rattle.spur_trace.specs.Faults.{IsTrace}
use Rattle.spur_trace.specs.Line.{trace_text}
use Rattle.spur_report.specs.declared.report.BoardReport.{BoardReport}
use Rattle.spur_report.specs.declared.report.Flags.{Flags}
use Rattle.spur_report.specs.declared.report.Report.{Report}
use Rattle.spur_report.specs.Texts.{report_text}
use Rattle.spur_check.specs.declared.verdict.Verdict.{Verdict}
use Rattle.spur_check.specs.declared.verdict.Verdict.TheVariants.{Good, Bad}
use Rattle.spur_check.specs.Judged.{judged}
use Rattle.spur_gen.specs.Text.{generated_text}
use Rattle.spur_words.specs.declared.task.Order.{Order}
use Rattle.spur_words.specs.declared.task.Order.TheVariants.{Scheduled, Threads}
use Rattle.spur_words.specs.declared.task.Task.{Task}
use Rattle.spur_words.specs.declared.task.Task.TheVariants.{Run, Check, Asm, Gen}
use Rattle.spur_input.specs.declared.refusal.Refusal.{Refusal}
use Rattle.spur_input.specs.Program.{IsAssembled, IsLoadable}
use Rattle.spur_input.specs.Judged.{IsVerdictOn}
use Rattle.spur_input.specs.Texts.{refusal_line}
use Rattle.spur_program.specs.declared.report.Outcome.{Outcome}
use Rattle.spur_program.specs.declared.report.Status.{Status}
use Rattle.spur_program.specs.declared.report.Status.TheVariants as status
use Rattle.spur_program.specs.declared.run.RunFault.{RunFault}
use Rattle.spur_program.specs.declared.run.RunFault.TheVariants.{SwapAtStart, NoMemory}
use Rattle.spur_program.specs.Accepted.{IsAccepted, IsRead, IsRefused, IsWhole, limit_of, reads_input}
use Rattle.spur_program.specs.PlainMemory.{plain_memory_of}
use Rattle.spur_program.specs.Probes.{AreShown}
use Rattle.spur_program.specs.Headline.{IsRunOnPlainMemory}
use Rattle.spur_program.specs.Reports.{IsReportOf, plain_start, run_in}
use Rattle.spur_program.specs.Runs.{HasFailedAtStart}
use Rattle.spur_program.specs.Texts.{verdict_line, words_line}

-- ---- statuses

abbrev pub is_halted : Option Ending → Bool
is_halted (Some ending.Halted) = true
is_halted other = false

abbrev pub has_halted : BoardReport → Bool
has_halted row = is_halted row.ending

-- the status of a run: Stopped where a probe stopped it; else fine where every board halted, and else Ended
abbrev pub status_by : Option (ℕ × ℕ) → Bool → Status
status_by (Some stop) all = status.Stopped
status_by None all = if all then status.Fine else status.Ended

abbrev pub status_of : Report → Status
status_of report = status_by report.stopped (list_all has_halted report.boards)

-- the status of a verdict: fine where it is good
abbrev pub verdict_status : Verdict → Status
verdict_status (Good entries) = status.Fine
verdict_status (Bad at clause wanted found) = status.Ended

-- the status of a run that did not come to its end
abbrev pub fault_status : RunFault → Status
fault_status SwapAtStart = status.SwapAtStart
fault_status NoMemory = status.NoMemory

-- ---- what is written

-- a text was to be written, with the status that goes with it: it was put whole; or a write failed, and a front of it
-- was put; or memory was wanting for it, and nothing was put
pub data IsWritten (text : List ℕ) (wanted got : Status) (before now : Option (List ℕ)) : Type 0 where
  Whole : got ≡ wanted → Gains before now text → IsWritten text wanted got before now
  Front : got ≡ status.WriteFault → GainsFront before now text → IsWritten text wanted got before now
  Nothing : got ≡ status.NoMemory → Gains before now [] → IsWritten text wanted got before now

-- what a run traces is judged good, with the number of its entries, where the swap tells its pages; and where the trace
-- was asked for and memory was not wanting for the text, the trace reads back as that of this header and this history
pub record IsTracedGood (opening : Opening) (flags : Flags) (now : Swap) (got : Status) (report : Report) : Type 0 where
  pub good : IsSome now.pages → judged opening report.history ≡ Good (length report.history)
  pub read_back : flags.trace ≡ true → got ≢ status.NoMemory
      → IsTrace (trace_text report.head report.history) report.head report.history

-- The headline, part by part, of a report and its own history, where these probes were handed in. What the words of the
-- command line ask for is a task, or else the number of the word that is refused.
pub record IsHeadline (probes : List Told) (asked : Result Task ℕ) (left left_now written written_now : Option (List ℕ))
    (before now : Swap) (got : Status) (report : Report) : Type 0 where
  -- for every accepted program text, which is what the source gave where it tells
  pub input : List ℕ
  pub whole : IsWhole left left_now input
  pub order : Order
  pub options : Options
  pub flags : Flags
  pub unit : Program
  pub accepted : IsAccepted asked input order options flags unit
  -- there is one history, each board's accesses stand in it once and in program order, answered as one machine may, and
  -- registers, endings, final memory and swap are that history's; for `sched` the boards have followed the schedule
  pub reports : IsReportOf (opening_of unit options) order before now report
  -- paging is invisible: the history and each board's way are those of a machine with the plain memory of the program,
  -- however many frames and lines there are
  pub invisible : IsRunOnPlainMemory plain (plain_memory_of unit) (plain_start (opening_of unit options) before.faults)
      (run_in report reports.boards now)
  -- the probes' lines, and where one of them stopped the run, are that history's
  pub shown : AreShown order probes report.history report.stopped report.lines
  -- and so is the text written
  pub text_written : IsWritten (report_text report flags) (status_of report) got written written_now
  -- whose trace is judged good
  pub traced : IsTracedGood (opening_of unit options) flags now got report

-- ---- answers for which no boards are run: a text, the status that goes with it, and a verdict or none

-- to an input: its refusal; the object of the unit that it says; or the verdict on the trace behind its program
pub data IsInputAnswer (task : Task) (input : List ℕ) : List ℕ → Status → Option Verdict → Type 0 where
  Refuses : (refusal : Refusal) → IsRefused task input refusal
      → IsInputAnswer task input (refusal_line refusal) status.Input None
  Assembles : task ≡ Asm → (unit : Program) → IsAssembled input unit
      → IsInputAnswer task input (object_bytes unit) status.Fine None
  Judges : (budget : ℕ) → task ≡ Check budget → (verdict : Verdict) → IsVerdictOn budget input verdict
      → IsInputAnswer task input (verdict_line verdict) (verdict_status verdict) (Some verdict)

-- to the words: the refusal of a word, or the generator's text, for neither of which anything is taken; or what is
-- answered to the input that was read
pub data IsAnswer (asked : Result Task ℕ) (left left_now : Option
    (List ℕ)) : List ℕ → Status → Option Verdict → Type 0 where
  ToWords : (number : ℕ) → asked ≡ Err number → Loses left left_now []
      → IsAnswer asked left left_now (words_line number) status.Words None
  Generates : (number boards pages : ℕ) → asked ≡ Ok (Gen number boards pages) → Loses left left_now []
      → IsAnswer asked left left_now (generated_text number boards pages) status.Fine None
  ToInput : (task : Task) → asked ≡ Ok task → (input : List ℕ) → IsRead (limit_of task) left left_now input
      → (text : List ℕ) (wanted : Status) (verdict : Option Verdict) → IsInputAnswer task input text wanted verdict
      → IsAnswer asked left left_now text wanted verdict

-- such an answer was to be written; no report is given, and the swap is handed back as it was
pub record IsSaid {B : Type 0} (text : List ℕ) (wanted : Status) (verdict : Option Verdict)
    (written written_now : Option (List ℕ)) (backing : B) (outcome : Outcome B) : Type 0 where
  pub report : outcome.report ≡ None
  pub given : outcome.verdict ≡ verdict
  pub same : outcome.backing ≡ backing
  pub put : IsWritten text wanted outcome.status written written_now

-- a status alone: nothing is given and nothing was put, and the swap is handed back as it was
pub record IsSilent {B : Type 0} (why : Status) (written written_now : Option (List ℕ)) (backing : B)
    (outcome : Outcome B) : Type 0 where
  pub is : outcome.status ≡ why
  pub report : outcome.report ≡ None
  pub verdict : outcome.verdict ≡ None
  pub same : outcome.backing ≡ backing
  pub put : Gains written written_now []

-- a run that did not come to its end: nothing is given and nothing was put
pub record IsBroken {B : Type 0} (why : Status) (written written_now : Option (List ℕ))
    (outcome : Outcome B) : Type 0 where
  pub is : outcome.status ≡ why
  pub report : outcome.report ≡ None
  pub verdict : outcome.verdict ≡ None
  pub put : Gains written written_now []

-- ---- what an input that was read whole is answered

-- an answer without boards; or memory was wanting before anything was begun; or a report of its run; or the swap failed
-- when it was made ready, or memory was wanting on the way
pub data InputAnswered {B : Type 0} (tells : B → Swap) (probes : List Told) (task : Task) (input : List ℕ)
    (written written_now : Option (List ℕ)) (backing : B) (outcome : Outcome B) : Type 0 where
  Said : (text : List ℕ) (wanted : Status) (verdict : Option Verdict) → IsInputAnswer task input text wanted verdict
      → IsSaid text wanted verdict written written_now backing outcome
      → InputAnswered tells probes task input written written_now backing outcome
  Unsaid : IsSilent status.NoMemory written written_now backing outcome
      → InputAnswered tells probes task input written written_now backing outcome
  Reported : (order : Order) (options : Options) (flags : Flags) → task ≡ Run order options flags
      → (unit : Program) → IsLoadable options input unit
      → (report : Report) → outcome.report ≡ Some report → outcome.verdict ≡ None
      → IsReportOf (opening_of unit options) order (tells backing) (tells outcome.backing) report
      → AreShown order probes report.history report.stopped report.lines
      → IsWritten (report_text report flags) (status_of report) outcome.status written written_now
      → IsTracedGood (opening_of unit options) flags (tells outcome.backing) outcome.status report
      → InputAnswered tells probes task input written written_now backing outcome
  Unbegun : (order : Order) (options : Options) (flags : Flags) → task ≡ Run order options flags
      → (unit : Program) → IsLoadable options input unit
      → HasFailedAtStart (tells backing) (tells outcome.backing)
      → IsBroken status.SwapAtStart written written_now outcome
      → InputAnswered tells probes task input written written_now backing outcome
  Undone : (order : Order) (options : Options) (flags : Flags) → task ≡ Run order options flags
      → (unit : Program) → IsLoadable options input unit
      → IsBroken status.NoMemory written written_now outcome
      → InputAnswered tells probes task input written written_now backing outcome

-- ---- the ways in which the call ends: by what it found, with what it answers there

pub data Way {B : Type 0} (tells : B → Swap) (probes : List Told) (asked : Result Task ℕ)
    (left left_now written written_now : Option (List ℕ)) (backing : B) (outcome : Outcome B) : Type 0 where
  -- an answer without boards was to be written
  Answered : (text : List ℕ) (wanted : Status) (verdict : Option Verdict) → IsAnswer asked left left_now text wanted verdict
      → IsSaid text wanted verdict written written_now backing outcome
      → Way tells probes asked left left_now written written_now backing outcome
  -- reading failed
  NotRead : (task : Task) → asked ≡ Ok task → reads_input task ≡ true
      → LosesAtMost left left_now (limit_of task + 1)
      → IsSilent status.ReadFault written written_now backing outcome
      → Way tells probes asked left left_now written written_now backing outcome
  -- memory was wanting before anything was begun: at most one byte more than the limit was taken
  Wanting : (task : Task) → asked ≡ Ok task → reads_input task ≡ true
      → LosesAtMost left left_now (limit_of task + 1)
      → IsSilent status.NoMemory written written_now backing outcome
      → Way tells probes asked left left_now written written_now backing outcome
  -- the input is accepted for a run, and the swap failed when it was made ready
  NotBegun : (order : Order) (options : Options) (flags : Flags) (unit : Program) (input : List ℕ)
      → IsWhole left left_now input → IsAccepted asked input order options flags unit
      → HasFailedAtStart (tells backing) (tells outcome.backing)
      → IsBroken status.SwapAtStart written written_now outcome
      → Way tells probes asked left left_now written written_now backing outcome
  -- the input is accepted for a run, and memory was wanting on the way
  NotRun : (order : Order) (options : Options) (flags : Flags) (unit : Program) (input : List ℕ)
      → IsWhole left left_now input → IsAccepted asked input order options flags unit
      → IsBroken status.NoMemory written written_now outcome
      → Way tells probes asked left left_now written written_now backing outcome
  -- the program was run
  Ran : (report : Report) → outcome.report ≡ Some report → outcome.verdict ≡ None
      → IsHeadline probes asked left left_now written written_now (tells backing) (tells outcome.backing)
      outcome.status report
      → Way tells probes asked left left_now written written_now backing outcome

-- ---- the causes, one status at a time

-- the words are refused exactly where they are not of the table, by the number of the first offending one
abbrev pub AnswersWords : {B : Type 0} → Result Task ℕ → Option (List ℕ) → Option (List ℕ) → Outcome B → Type 0
AnswersWords (Ok task) written written_now outcome = outcome.status ≢ status.Words
AnswersWords (Err number) written written_now outcome =
    (outcome.report ≡ None) × (outcome.verdict ≡ None)
    × IsWritten (words_line number) status.Words outcome.status written written_now

-- the input was read and is refused, and its line was put
pub record IsInputRefused (asked : Result Task ℕ) (left left_now written written_now : Option (List ℕ)) : Type 0 where
  pub task : Task
  pub command : asked ≡ Ok task
  pub input : List ℕ
  pub read : IsRead (limit_of task) left left_now input
  pub refusal : Refusal
  pub why : IsRefused task input refusal
  pub line : Gains written written_now (refusal_line refusal)

-- where the words are of the table and a told input is refused, nothing is given, and the line of its refusal was to be
-- put; but for a fault in reading
abbrev pub AnswersRefusal : {B : Type 0} → Result Task ℕ → Option (List ℕ) → Option (List ℕ) → Option (List ℕ) → Outcome B → Type 0
AnswersRefusal asked left written written_now outcome =
    (input : List ℕ) (task : Task) (refusal : Refusal) → asked ≡ Ok task → left ≡ Some input
    → IsRefused task input refusal
    → (outcome.report ≡ None) × (outcome.verdict ≡ None)
    × (IsWritten (refusal_line refusal) status.Input outcome.status written written_now
    ⊎ (outcome.status ≡ status.ReadFault))

-- reading failed only for words of a command that reads, and nothing was put
pub record HasReadFault {B : Type 0} (asked : Result Task ℕ) (written written_now : Option (List ℕ))
    (outcome : Outcome B) : Type 0 where
  pub task : Task
  pub command : asked ≡ Ok task
  pub reads_it : reads_input task ≡ true
  pub report : outcome.report ≡ None
  pub verdict : outcome.verdict ≡ None
  pub put : Gains written written_now []

-- the swap failed when it was made ready for the boards of an accepted input, and nothing was put
pub record HasSwapFault {B : Type 0} (tells : B → Swap) (asked : Result Task ℕ)
    (left left_now written written_now : Option (List ℕ)) (backing : B) (outcome : Outcome B) : Type 0 where
  pub order : Order
  pub options : Options
  pub flags : Flags
  pub unit : Program
  pub input : List ℕ
  pub whole : IsWhole left left_now input
  pub accepted : IsAccepted asked input order options flags unit
  pub failed : HasFailedAtStart (tells backing) (tells outcome.backing)
  pub report : outcome.report ≡ None
  pub verdict : outcome.verdict ≡ None
  pub put : Gains written written_now []

-- ---- what is given

-- a verdict that is given is the one on the trace of the input, which is what the source gave where it tells; and its
-- line was to be put
pub record IsJudgement (asked : Result Task ℕ) (left left_now written written_now : Option (List ℕ))
    (got : Status) (verdict : Verdict) : Type 0 where
  pub budget : ℕ
  pub command : asked ≡ Ok (Check budget)
  pub input : List ℕ
  pub whole : IsWhole left left_now input
  pub is : IsVerdictOn budget input verdict
  pub line_written : IsWritten (verdict_line verdict) (verdict_status verdict) got written written_now

-- a report may be given with the statuses Fine, Ended and Stopped, with a write fault and with want of memory, and
-- never else
abbrev pub MayGive : Status → Type 0
MayGive status.Fine = Unit {0}
MayGive status.Ended = Unit {0}
MayGive status.Words = ⊥
MayGive status.Input = ⊥
MayGive status.ReadFault = ⊥
MayGive status.WriteFault = Unit {0}
MayGive status.SwapAtStart = ⊥
MayGive status.Stopped = Unit {0}
MayGive status.NoMemory = Unit {0}

-- a verdict with the same, but never with Stopped
abbrev pub MayJudge : Status → Type 0
MayJudge given = (given ≢ status.Stopped) × MayGive given

-- a report of a run is given that no probe stopped: every board halted, or some board did not
abbrev pub HasHaltedUnstopped : Bool → Report → Type 0
HasHaltedUnstopped all report = (report.stopped ≡ None) × (list_all has_halted report.boards ≡ all)

abbrev pub ReportsHalted : {B : Type 0} → Bool → Outcome B → Type 0
ReportsHalted all outcome = IsSomeAnd outcome.report (HasHaltedUnstopped all)

-- a report of a run is given that a probe stopped
abbrev pub ReportsStopped : {B : Type 0} → Outcome B → Type 0
ReportsStopped outcome = IsSomeAnd outcome.report (λ report. IsSome report.stopped)

-- a verdict of this status is given
abbrev pub GivesVerdict : {B : Type 0} → Status → Outcome B → Type 0
GivesVerdict is outcome = IsSomeAnd outcome.verdict (λ verdict. verdict_status verdict ≡ is)

-- the object of the unit that some text says was put
pub record PutsObject (written written_now : Option (List ℕ)) : Type 0 where
  pub text : List ℕ
  pub unit : Program
  pub assembled : IsAssembled text unit
  pub put : Gains written written_now (object_bytes unit)

-- the command was done: every board halted and no probe stopped the run, the verdict is good, or the object or the
-- generator's text was put
abbrev pub WasDone : {B : Type 0} → Option (List ℕ) → Option (List ℕ) → Task → Outcome B → Type 0
WasDone written written_now (Run order options flags) outcome = ReportsHalted true outcome
WasDone written written_now (Check budget) outcome = GivesVerdict status.Fine outcome
WasDone written written_now Asm outcome = PutsObject written written_now
WasDone written written_now (Gen number boards pages) outcome =
    Gains written written_now (generated_text number boards pages)

-- it came to another end: some board did not halt, or the verdict is bad
abbrev pub EndedOtherwise : {B : Type 0} → Task → Outcome B → Type 0
EndedOtherwise (Run order options flags) outcome = ReportsHalted false outcome
EndedOtherwise (Check budget) outcome = GivesVerdict status.Ended outcome
EndedOtherwise Asm outcome = ⊥
EndedOtherwise (Gen number boards pages) outcome = ⊥

-- a probe stopped it: that comes of the schedule alone
abbrev pub WasStopped : {B : Type 0} → Task → Outcome B → Type 0
WasStopped (Run Threads options flags) outcome = ⊥
WasStopped (Run (Scheduled schedule) options flags) outcome = ReportsStopped outcome
WasStopped (Check budget) outcome = ⊥
WasStopped Asm outcome = ⊥
WasStopped (Gen number boards pages) outcome = ⊥

-- what is said of the task that the words ask for
abbrev pub ByTask : {B : Type 0} → (Task → Outcome B → Type 0) → Result Task ℕ → Outcome B → Type 0
ByTask Is asked outcome = (task : Task) → asked ≡ Ok task → Is task outcome

-- a command that runs no boards hands the swap back as it was
abbrev pub HandsBack : {B : Type 0} → B → Task → Outcome B → Type 0
HandsBack backing (Run order options flags) outcome = Unit {0}
HandsBack backing (Check budget) outcome = outcome.backing ≡ backing
HandsBack backing Asm outcome = outcome.backing ≡ backing
HandsBack backing (Gen number boards pages) outcome = outcome.backing ≡ backing

-- where a told input is accepted, its report or its verdict is given
abbrev pub IsStillGiven : {B : Type 0} → Option (List ℕ) → Task → Outcome B → Type 0
IsStillGiven left (Run order options flags) outcome =
    (input : List ℕ) (unit : Program) → left ≡ Some input → IsLoadable options input unit → IsSome outcome.report
IsStillGiven left (Check budget) outcome =
    (input : List ℕ) (verdict : Verdict) → left ≡ Some input → IsVerdictOn budget input verdict → outcome.verdict ≡ Some verdict
IsStillGiven left Asm outcome = Unit {0}
IsStillGiven left (Gen number boards pages) outcome = Unit {0}

-- ---- completeness

-- a text was put whole with its status, or memory was wanting
abbrev pub PutOrWanting : {B : Type 0} → List ℕ → Status → Option (List ℕ) → Option (List ℕ) → Outcome B → Type 0
PutOrWanting text wanted written written_now outcome =
    ((outcome.status ≡ wanted) × Gains written written_now text) ⊎ (outcome.status ≡ status.NoMemory)

-- a report is given and its text was put whole with the run's status, or memory was wanting
abbrev pub ReportedOrWanting : {B : Type 0} → Flags → Option (List ℕ) → Option (List ℕ) → Outcome B → Type 0
ReportedOrWanting flags written written_now outcome =
    IsSomeAnd outcome.report (λ report. (outcome.status ≡ status_of report) × Gains written written_now (report_text report flags))
    ⊎ (outcome.status ≡ status.NoMemory)

-- so it is where a told input is accepted; and `gen` needs none
abbrev pub IsComplete : {B : Type 0} → Option (List ℕ) → Option (List ℕ) → Option (List ℕ) → Task → Outcome B → Type 0
IsComplete left written written_now (Run order options flags) outcome =
    (input : List ℕ) (unit : Program) → left ≡ Some input → IsLoadable options input unit
    → ReportedOrWanting flags written written_now outcome
IsComplete left written written_now (Check budget) outcome =
    (input : List ℕ) (verdict : Verdict) → left ≡ Some input → IsVerdictOn budget input verdict
    → PutOrWanting (verdict_line verdict) (verdict_status verdict) written written_now outcome
IsComplete left written written_now Asm outcome =
    (input : List ℕ) (unit : Program) → left ≡ Some input → IsAssembled input unit
    → PutOrWanting (object_bytes unit) status.Fine written written_now outcome
IsComplete left written written_now (Gen number boards pages) outcome =
    PutOrWanting (generated_text number boards pages) status.Fine written written_now outcome
