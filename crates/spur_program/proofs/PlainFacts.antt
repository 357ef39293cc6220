-- Processors of codes, and the report of a run with them.
use Rattle.std.proofs.Common.{◌≡◌, ◌⊎◌, inl, inr, ℕ, zero, suc, ◌≤◌, Option, Some, Result, Ok, Err, IfOk, List, [], ◌∷◌, ◌++◌, length, map, refl, sym, ap, ◌∙◌, subst, arith}
use Rattle.std.specs.Prelude.{slice_get}
use Rattle.std.specs.List.{AllZip}
use Rattle.std.proofs.lemmas.List.{length-append}
use Rattle.std.proofs.lemmas.Option.{slice_get_within}
use Rattle.spur_isa.specs.declared.instr.Instr.{Instr}
use Rattle.spur_swap.specs.Meaning.{Swap}
use Rattle.spur_cpu.specs.declared.plain.PlainCpu.{PlainCpu}
use Rattle.spur_cpu.specs.Plain.{Plain, opened, plain}
use Rattle.spur_cpu.specs.PlainCpus.{plain_of, room_of}
use Rattle.spur_loader.specs.declared.opening.Opening.{Opening}
use Rattle.spur_board.specs.declared.board.Board.{Board}
use Rattle.spur_core.specs.Begin.{IsBeginning}
use Rattle.spur_core.specs.Loaded.{AreAtBeginning, IsAtBeginning}
use Rattle.spur_core.specs.Start.{Start}
use Rattle.spur_core.specs.Step.{runners_of}
use Rattle.spur_core.proofs.LoadedFacts.{loaded_may_begin}
use Rattle.spur_flat.specs.declared.entry.Entry.{Entry}
use Rattle.spur_probe.specs.declared.probe.ProbeLine.{ProbeLine}
use Rattle.spur_probe.specs.Shown.{Told}
use Rattle.spur_report.specs.declared.report.BoardReport.{BoardReport}
use Rattle.spur_words.specs.declared.task.Order.{Order}
use Rattle.spur_program.specs.declared.plain.Prepared.{Prepared}
use Rattle.spur_program.specs.declared.plain.Reported.{Reported}
use Rattle.spur_trace.specs.declared.head.TraceHead.{TraceHead}
use Rattle.spur_program.specs.declared.run.Finished.{Finished}
use Rattle.spur_input.specs.Program.{IsLoadedOpening}
use Rattle.spur_program.specs.Headline.{IsRunOf, Run}
use Rattle.spur_program.specs.Probes.{AreShown, stop_number}
use Rattle.spur_program.specs.Runs.{FollowsOrder, HasRun, run_of, start_from}
use Rattle.spur_program.proofs.TraceFacts.{entries_fit, head_fits, judged_good}
use Rattle.spur_program.specs.Reports.{IsPrepared, IsReportFrom, IsReportOf, IsReportedRun, ShowsBoard, plain_start, report_row, run_in}

-- ---- processors

got_snoc : {A : Type 0} (xs : List A) (x y : A) (i : ℕ) → slice_get (xs ++ x ∷ []) i ≡ Some y → ((i ≡ length xs) × (x ≡ y)) ⊎ (slice_get xs i ≡ Some y)
got_snoc [] x y zero e = inl (refl, cc)
got_snoc [] x y (suc i) e = absurd cc
got_snoc (z ∷ xs) x y zero e = inr e
got_snoc (z ∷ xs) x y (suc i) e = elim (got_snoc xs x y i e) [ inl t ↦ inl (ap suc t.0, t.1) | inr h ↦ inr h ]

-- one more processor for one more code
pub processors_more : (codes : List (List Instr)) (code : List Instr) (room : ℕ) (cpus : List PlainCpu) (cpu : PlainCpu) → AreAtBeginning codes room cpus
    → plain_of cpu ≡ opened code → room ≤ room_of cpu → AreAtBeginning (codes ++ code ∷ []) room (cpus ++ cpu ∷ [])
processors_more codes code room cpus cpu are state spare = record {
  count = (let same = are.count in let more = length-append cpus (cpu ∷ []) in let also = length-append codes (code ∷ []) in omega arith);
  each = λ i c p at there. elim (got_snoc codes code c i at) [
    | inl last ↦ elim (got_snoc cpus cpu p i there) [
      | inl here ↦ subst (λ (z : List Instr × PlainCpu). IsAtBeginning z.0 room z.1) (λ k. (last.1 k, here.1 k)) record { state = state; spare = spare }
      | inr before ↦ absurd (let lt = slice_get_within cpus i p before in let same = are.count in let end = last.0 in omega arith)
    ]
    | inr before ↦ elim (got_snoc cpus cpu p i there) [
      | inl here ↦ absurd (let lt = slice_get_within codes i c before in let same = are.count in let end = here.0 in omega arith)
      | inr also ↦ are.each i c p before also
    ]
  ];
}

-- so each is in the first state of its code
pub states_are : (codes : List (List Instr)) (room : ℕ) (cpus : List PlainCpu) → AreAtBeginning codes room cpus → map plain_of cpus ≡ map opened codes
states_are [] room [] are = refl
states_are [] room (cpu ∷ cpus) are = absurd (let same = are.count in omega arith)
states_are (code ∷ codes) room [] are = absurd (let same = are.count in omega arith)
states_are (code ∷ codes) room (cpu ∷ cpus) are =
    let first : plain_of cpu ≡ opened code = (are.each 0 code cpu refl refl).state in
    let others : AreAtBeginning codes room cpus = record { count = (let same = are.count in omega arith); each = λ i c p at there. are.each (suc i) c p at there } in
    let rest : map plain_of cpus ≡ map opened codes = states_are codes room cpus others in
    λ k. first k ∷ rest k

-- a world may begin with a loaded opening, whatever its code is said to be, and processors of its codes
loaded_begins : (opening : Opening) (cpus : List PlainCpu) → IsLoadedOpening opening → AreAtBeginning opening.code opening.options.budget cpus → IsBeginning plain plain_of room_of opening cpus
loaded_begins opening cpus loaded are =
    let is = loaded.is in
    subst (λ (o : Opening). IsBeginning plain plain_of room_of o cpus) (sym is)
    (loaded_may_begin loaded.unit opening.options cpus loaded.limits loaded.range loaded.loads (subst (λ (o : Opening). AreAtBeginning o.code opening.options.budget cpus) is are))

pub bare_begins : (opening : Opening) (code : List (List Instr)) (cpus : List PlainCpu) → IsLoadedOpening opening → AreAtBeginning opening.code opening.options.budget cpus
    → IsBeginning plain plain_of room_of (record opening { code = code }) cpus
bare_begins opening code cpus loaded are =
    let may = loaded_begins opening cpus loaded are in
    let begins = may.begins in
    record {
      begins = record { boards = begins.boards; registers = begins.registers; options = begins.options; frames = begins.frames; valid = begins.valid; absent = begins.absent };
      count = may.count;
      running = may.running;
      room = may.room;
    }

-- ---- reports

shows_rows : (boards : List (Board PlainCpu)) → AllZip ShowsBoard (map report_row boards) (runners_of plain plain_of boards)
shows_rows [] = tt
shows_rows (b ∷ boards) = (record { program = refl; swap = refl; retired = refl; registers = refl; shown = refl }, shows_rows boards)

-- what is reported of a run is the report of it
report_is : {B : Type 0} (tells : B → Swap) (opening : Opening) (ready : Prepared) (order : Order) (probes : List Told) (before : Swap) (ran : Finished PlainCpu B) (done : Reported B)
    → IsPrepared opening ready → HasRun plain plain_of tells order probes ready.opening ready.cpus.items before ran → IsReportFrom ready.head ran done
    → IsReportOf opening order before (tells done.backing) done.report
report_is tells opening ready order probes before ran done prepared has from =
    let start : start_from plain_of ready.opening ready.cpus.items before ≡ plain_start opening before.faults =
    λ k. record { flat = (prepared.bare k).flat; segs = (prepared.bare k).segs; options = (prepared.bare k).options; firsts = prepared.states k; faults = before.faults } in
    let run : run_of plain plain_of tells ran ≡ run_in done.report (runners_of plain plain_of ran.boards.items) (tells done.backing) = λ k. record {
      history = sym from.history k;
      boards = runners_of plain plain_of ran.boards.items;
      memory = sym from.last k;
      swap = (tells (sym from.swap k)).pages;
      faults = (tells (sym from.swap k)).faults;
      stop = stop_number (sym from.stopped k);
    } in
    let all = subst (λ (z : Start Plain × Run Plain). IsRunOf plain z.0 z.1 × FollowsOrder plain order z.0 z.1) (λ k. (start k, run k)) (has.came, has.followed) in
    record {
      boards = runners_of plain plain_of ran.boards.items;
      rows = subst (λ (rows : List BoardReport). AllZip ShowsBoard rows (runners_of plain plain_of ran.boards.items)) (sym from.boards) (shows_rows ran.boards.items);
      head = from.head_is ∙ prepared.head;
      run = all.0;
      followed = all.1;
    }

-- and it tells of the probes what they saw
shown_is : {B : Type 0} (head : TraceHead) (order : Order) (probes : List Told) (ran : Finished PlainCpu B) (done : Reported B)
    → AreShown order probes ran.store.history.entries ran.seen.stopped ran.seen.lines.items → IsReportFrom head ran done
    → AreShown order probes done.report.history done.report.stopped done.report.lines
shown_is head order probes ran done shown from =
    subst (λ (z : List Entry × Option (ℕ × ℕ) × List ProbeLine). AreShown order probes z.0 z.1 z.2) (λ k. (sym from.history k, sym from.stopped k, sym from.lines k)) shown

-- so it is where a report was made
pub reported_if-Ok : {B E : Type 0} (tells : B → Swap) (opening : Opening) (ready : Prepared) (order : Order) (probes : List Told) (before : Swap) (ran : Finished PlainCpu B) (result : Result (Reported B) E)
    → IsLoadedOpening opening → IsPrepared opening ready → HasRun plain plain_of tells order probes ready.opening ready.cpus.items before ran → IfOk result (IsReportFrom ready.head ran)
    → IfOk result (λ done. IsReportedRun opening order probes before (tells done.backing) done.report)
reported_if-Ok tells opening ready order probes before ran (Ok done) loaded prepared has from =
    let reports = report_is tells opening ready order probes before ran done prepared has from in
    record {
      reports = reports;
      shown = shown_is ready.head order probes ran done has.shown from;
      head = head_fits opening done.report loaded reports.head;
      entries = entries_fit opening order before (tells done.backing) done.report loaded reports;
      good = judged_good opening order before (tells done.backing) done.report loaded reports;
    }
reported_if-Ok tells opening ready order probes before ran (Err fault) loaded prepared has from = tt
