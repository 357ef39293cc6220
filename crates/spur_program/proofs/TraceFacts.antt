-- The trace of a run: it may be written, and it is judged good.
use Rattle.std.proofs.Common.{◌≡◌, ℕ, zero, suc, ◌<◌, ◌≤◌, Option, Some, None, List, [], ◌∷◌, length, map, refl, sym, ap, ◌∙◌, subst, arith}
use Rattle.std.specs.Prelude.{IsSome, slice_get}
use Rattle.std.specs.List.{All}
use Rattle.std.proofs.lemmas.List.Elements.{All-from_recursion}
use Rattle.std.proofs.lemmas.Option.{slice_get_within}
use Rattle.spur_isa.specs.declared.instr.Instr.{Instr}
use Rattle.spur_flat.specs.History.{own_entries}
use Rattle.spur_flat.specs.StateLaws.{IsEach}
use Rattle.spur_flat.specs.Untold.{IsLegalButValues}
use Rattle.spur_flat.specs.WellFormed.{HasWord, IsWellFormed}
use Rattle.spur_flat.proofs.WellFormedFacts.{legal_but_values, legal_is_well_formed}
use Rattle.spur_swap.specs.Meaning.{Swap}
use Rattle.spur_cpu.specs.After.{IsLed, begun}
use Rattle.spur_cpu.specs.Plain.{Plain, opened, plain}
use Rattle.spur_loader.specs.declared.opening.Opening.{Opening}
use Rattle.spur_loader.specs.Opening.{board_count, first_state}
use Rattle.spur_trace.specs.declared.head.TraceHead.{TraceHead}
use Rattle.spur_trace.specs.Faults.{IsTrace}
use Rattle.spur_trace.specs.Formed.{IsHead}
use Rattle.spur_trace.specs.Line.{trace_text}
use Rattle.spur_check.specs.Judged.{MayBeJudged, judged}
use Rattle.spur_check.specs.Laws.{HasFollowed as HasReplayed, IsTraced}
use Rattle.spur_check.specs.declared.verdict.Verdict.TheVariants.{Good}
use Rattle.spur_check.proofs.Opened.{loaded-may-be-judged, traced-is-good}
use Rattle.spur_core.specs.Step.{Runner}
use Rattle.spur_report.specs.declared.report.Report.{Report}
use Rattle.spur_words.specs.declared.task.Order.{Order}
use Rattle.spur_input.specs.Program.{IsLoadedOpening}
use Rattle.spur_program.specs.Headline.{HasFollowedProgram, IsOfOneMachine}
use Rattle.spur_program.specs.Reports.{IsReportOf, head_of, plain_start}

-- of the opening of a loaded program a history may be judged
may_be_judged : (opening : Opening) → IsLoadedOpening opening → MayBeJudged opening
may_be_judged opening loaded = subst MayBeJudged (sym loaded.is) (loaded-may-be-judged loaded.unit opening.options loaded.limits loaded.range loaded.loads)

pub few_boards : (opening : Opening) → IsLoadedOpening opening → board_count opening ≤ 12
few_boards opening loaded = (let may = may_be_judged opening loaded in may.boards.few_boards)

-- its header is in its ranges
head_is : (opening : Opening) → IsLoadedOpening opening → IsHead (head_of opening)
head_is opening loaded =
    let may = may_be_judged opening loaded in
    let boards = may.boards in
    let range = loaded.range in
    record {
      ranges = (
        record { low = omega arith; high = omega arith },
        (
          record { low = boards.some_boards; high = boards.few_boards },
          (record { low = range.some_frames; high = range.few_frames }, (record { low = range.lines.some_lines; high = range.lines.few_lines }, tt)),
        ),
      );
      lines = range.lines;
    }

pub head_fits : (opening : Opening) (report : Report) → IsLoadedOpening opening → report.head ≡ head_of opening → IsHead report.head
head_fits opening report loaded is = subst IsHead (sym is) (head_is opening loaded)

-- ---- the entries are well formed

module _ (opening : Opening) (order : Order) (before now : Swap) (report : Report) (loaded : IsLoadedOpening opening) (reports : IsReportOf opening order before now report) where
  legal : (told : Option (List ℕ)) → IsOfOneMachine (first_state opening) report.history report.last told → IsLegalButValues opening.flat report.history
  legal (Some words) is = legal_but_values opening.flat report.history is.entries.legal
  legal None is = is.legal

  well_formed : All (IsWellFormed (board_count opening)) report.history
  well_formed =
      let may = may_be_judged opening loaded in
      All-from_recursion (IsWellFormed (board_count opening)) report.history
      (legal_is_well_formed opening.flat (board_count opening) report.history may.valid reports.run.order.formed (legal now.pages reports.run.machine))

  pub entries_fit : All (IsWellFormed report.head.boards) report.history
  entries_fit = subst (λ (h : TraceHead). All (IsWellFormed h.boards) report.history) (sym reports.head) well_formed

  -- ---- the trace reads back

  pub reads_back : All HasWord report.history → IsTrace (trace_text report.head report.history) report.head report.history
  reads_back words = record { is_head = head_fits opening report loaded reports.head; formed = entries_fit; words = words; text_is = refl }

  -- ---- the history is judged good

  got_mapped : (codes : List (List Instr)) (b : ℕ) (code : List Instr) → slice_get codes b ≡ Some code → slice_get (map opened codes) b ≡ Some (opened code)
  got_mapped [] b code at = absurd cc
  got_mapped (one ∷ codes) zero code at = (let same : one ≡ code = cc in ap (λ (c : List Instr). Some (opened c)) same)
  got_mapped (one ∷ codes) (suc b) code at = got_mapped codes b code at

  got_within : {A : Type 0} (xs : List A) (b : ℕ) → b < length xs → (x : A) × (slice_get xs b ≡ Some x)
  got_within [] b within = absurd (omega arith)
  got_within (x ∷ xs) zero within = (x, refl)
  got_within (x ∷ xs) (suc b) within = got_within xs b (omega arith)

  replayed : (b : ℕ) (segs : List ℕ) (code : List Instr) (runner : Runner Plain) → slice_get opening.segs b ≡ Some segs
      → HasFollowedProgram plain (plain_start opening before.faults) b (opened code) (own_entries report.history b) runner → HasReplayed opening (own_entries report.history b) segs code
  replayed b segs code runner at followed =
      let same : runner.segs ≡ segs = (let e : Some runner.segs ≡ Some segs = sym followed.registers ∙ at in cc) in
      record {
        course = runner.course;
        led = subst (λ (z : List ℕ × ℕ). IsLed plain z.0 z.1 (begun (opened code)) (own_entries report.history b) runner.course) (λ k. (same k, followed.limit k)) followed.led;
      }

  traced : IsEach (first_state opening) report.history → IsTraced opening report.history
  traced each = record {
    entries = each;
    formed = reports.run.order.formed;
    order = λ b segs code at there.
        let within = slice_get_within opening.segs b segs at in
        let runner = got_within reports.boards b (let count = reports.run.order.count in omega arith) in
        replayed b segs code runner.0 at (reports.run.order.each b (opened code) runner.0 (got_mapped opening.code b code there) runner.1);
  }

  good_by : (told : Option (List ℕ)) → IsOfOneMachine (first_state opening) report.history report.last told → IsSome told → judged opening report.history ≡ Good (length report.history)
  good_by (Some words) is some = traced-is-good opening report.history (may_be_judged opening loaded) (traced is.entries)
  good_by None is some = absurd cc

  pub judged_good : IsSome now.pages → judged opening report.history ≡ Good (length report.history)
  judged_good some = good_by now.pages reports.run.machine some
