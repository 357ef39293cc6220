-- What is answered to a told input that is accepted, and to one that is refused.
use Rattle.std.proofs.Common.{◌≡◌, ◌≢◌, ◌<◌, ◌⊎◌, inl, inr, ℕ, List, Option, Some, None, Result, Ok, Err, refl, sym, ap, ◌∙◌, subst, arith}
use Rattle.std.specs.Prelude.{IfSome, IsSome, IsSomeAnd}
use Rattle.spur_io.specs.Told.{Gains}
use Rattle.spur_swap.specs.Meaning.{Swap}
use Rattle.spur_probe.specs.Shown.{Told}
use Rattle.spur_object.specs.Fields.{object_bytes}
use Rattle.spur_object.specs.declared.unit.Unit.{Unit as Program}
use Rattle.spur_loader.specs.declared.opening.Options.{Options}
use Rattle.spur_report.specs.declared.report.Flags.{Flags}
use Rattle.spur_report.specs.declared.report.Report.{Report}
use Rattle.spur_report.specs.Texts.{report_text}
use Rattle.spur_check.specs.declared.verdict.Verdict.{Verdict}
use Rattle.spur_gen.specs.Text.{generated_text}
use Rattle.spur_words.specs.declared.task.Order.{Order}
use Rattle.spur_words.specs.declared.task.Task.{Task}
use Rattle.spur_words.specs.declared.task.Task.TheVariants.{Run, Check, Asm, Gen}
use Rattle.spur_input.specs.declared.refusal.Refusal.{Refusal}
use Rattle.spur_input.specs.Program.{IsAssembled, check_limit}
use Rattle.spur_input.specs.Judged.{IsVerdictOn}
use Rattle.spur_input.specs.Texts.{refusal_line}
use Rattle.spur_input.proofs.AssembleFacts.{assembled_is_not_refused, one_is_assembled, one_refusal_to_assemble}
use Rattle.spur_input.proofs.CheckFacts.{judgeable_is_not_refused, one_refusal_to_check, one_verdict}
use Rattle.spur_input.proofs.RunFacts.{loadable_is_not_refused, one_refusal_to_run}
use Rattle.spur_program.specs.declared.report.Outcome.{Outcome}
use Rattle.spur_program.specs.declared.report.Status.{Status}
use Rattle.spur_program.specs.declared.report.Status.TheVariants as status
use Rattle.spur_program.specs.Texts.{verdict_line}
use Rattle.spur_program.specs.Accepted.{IsAccepted, IsRead, IsRefused, IsWhole, ReadFront, ReadWhole, limit_of}
use Rattle.spur_program.specs.Answer.{status_of, verdict_status, IsAnswer, IsInputAnswer, IsWritten, Whole, Front, Nothing, Answered, NotRead, Wanting, NotBegun, NotRun, Ran, Way}
use Rattle.spur_program.specs.Answer.{Assembles, Generates, Judges, Refuses, ToInput, ToWords, AnswersRefusal, IsComplete, IsJudgement, IsStillGiven, IsSaid, PutOrWanting, ReportedOrWanting}
use Rattle.spur_program.proofs.WrittenFacts.{read_input, same_input}

-- a verdict on an input that is refused
not_judged : (budget : ℕ) (input : List ℕ) (verdict : Verdict) (refusal : Refusal) → IsVerdictOn budget input verdict → IsRefused (Check budget) input refusal → ⊥
not_judged budget input verdict refusal on why = judgeable_is_not_refused budget input on.unit on.head on.entries refusal on.judgeable why

-- an input has one refusal at most
one_refusal : (task : Task) (input : List ℕ) (one other : Refusal) → IsRefused task input one → IsRefused task input other → one ≡ other
one_refusal (Run order options flags) input one other first second = one_refusal_to_run options input one other first second
one_refusal (Check budget) input one other first second = one_refusal_to_check budget input one other first second
one_refusal Asm input one other first second = one_refusal_to_assemble input one other first second
one_refusal (Gen number boards pages) input one other first second = absurd first

module _ {B : Type 0} (tells : B → Swap) (probes : List Told) (asked : Result Task ℕ) (left left_now written written_now : Option (List ℕ)) (backing : B) (outcome : Outcome B) where
  abbrev IsWay : Type 0
  IsWay = Way tells probes asked left left_now written written_now backing outcome

  one_task : (task other : Task) → asked ≡ Ok task → asked ≡ Ok other → other ≡ task
  one_task task other command chosen = cc

  -- ---- the verdict that is given

  abbrev IsJudged : Verdict → Type 0
  IsJudged verdict = IsJudgement asked left left_now written written_now outcome.status verdict

  none_judged : outcome.verdict ≡ None → IfSome outcome.verdict IsJudged
  none_judged none = subst (λ (o : Option Verdict). IfSome o IsJudged) (sym none) tt

  -- an input on which there is a verdict was read whole
  read_whole : (budget : ℕ) (input : List ℕ) (verdict : Verdict) → IsVerdictOn budget input verdict → IsRead check_limit left left_now input → IsWhole left left_now input
  read_whole budget input verdict on (ReadWhole within whole) = whole
  read_whole budget input verdict on (ReadFront long had lost) = absurd (let within = on.judgeable.within in omega arith)

  judged_by : (task : Task) → asked ≡ Ok task → (input text : List ℕ) (wanted : Status) (verdict : Option Verdict) → IsRead (limit_of task) left left_now input
      → IsInputAnswer task input text wanted verdict → outcome.verdict ≡ verdict → IsWritten text wanted outcome.status written written_now → IfSome outcome.verdict IsJudged
  judged_by task command input text wanted verdict read (Refuses refusal why) given put = none_judged given
  judged_by task command input text wanted verdict read (Assembles asm unit is) given put = none_judged given
  judged_by task command input text wanted verdict read (Judges budget check v on) given put =
      subst (λ (o : Option Verdict). IfSome o IsJudged) (sym given) record {
        budget = budget;
        command = command ∙ ap (λ (t : Task). Ok t) check;
        input = input;
        whole = read_whole budget input v on (subst (λ (t : Task). IsRead (limit_of t) left left_now input) check read);
        is = on;
        line_written = put;
      }

  answer_judged : (text : List ℕ) (wanted : Status) (verdict : Option Verdict) → IsAnswer asked left left_now text wanted verdict
      → outcome.verdict ≡ verdict → IsWritten text wanted outcome.status written written_now → IfSome outcome.verdict IsJudged
  answer_judged text wanted verdict (ToWords number bad taken) given put = none_judged given
  answer_judged text wanted verdict (Generates number boards pages chosen taken) given put = none_judged given
  answer_judged text wanted verdict (ToInput task chosen input read text1 wanted1 verdict1 answer) given put = judged_by task chosen input text wanted verdict read answer given put

  pub judgement_of : IsWay → IfSome outcome.verdict IsJudged
  judgement_of (Answered text wanted verdict answer said) = answer_judged text wanted verdict answer said.given said.put
  judgement_of (NotRead task chosen reads_it taken silent) = none_judged silent.verdict
  judgement_of (Wanting task chosen reads_it taken silent) = none_judged silent.verdict
  judgement_of (NotBegun order options flags unit input whole accepted failed broken) = none_judged broken.verdict
  judgement_of (NotRun order options flags unit input whole accepted broken) = none_judged broken.verdict
  judgement_of (Ran report given none holds) = none_judged none

  -- ---- a told input that is refused

  -- an input that was read whole and accepted for a run is not a told one that is refused
  not_accepted : (input other : List ℕ) (task : Task) (order : Order) (options : Options) (flags : Flags) (unit : Program) (refusal : Refusal) → asked ≡ Ok task → left ≡ Some input
      → IsWhole left left_now other → IsAccepted asked other order options flags unit → IsRefused task input refusal → ⊥
  not_accepted input other task order options flags unit refusal command told whole accepted why =
      let one : Run order options flags ≡ task = one_task task (Run order options flags) command accepted.command in
      let same : other ≡ input = same_input left left_now input other told whole.given whole.end in
      loadable_is_not_refused options other unit refusal accepted.loadable
      (subst (λ (z : Task × List ℕ). IsRefused z.0 z.1 refusal) (λ k. (sym one k, sym same k)) why)

  abbrev Refused : Refusal → Type 0
  Refused refusal = (outcome.report ≡ None) × (outcome.verdict ≡ None)
      × (IsWritten (refusal_line refusal) status.Input outcome.status written written_now ⊎ (outcome.status ≡ status.ReadFault))

  refused_by : (task : Task) (input text : List ℕ) (wanted : Status) (verdict : Option Verdict) (refusal : Refusal) → IsRefused task input refusal → IsInputAnswer task input text wanted verdict
      → IsSaid text wanted verdict written written_now backing outcome → Refused refusal
  refused_by task input text wanted verdict refusal why (Refuses reason found) said = (
    said.report,
    said.given,
    inl (subst (λ (r : Refusal). IsWritten (refusal_line r) status.Input outcome.status written written_now) (one_refusal task input reason refusal found why) said.put),
  )
  refused_by task input text wanted verdict refusal why (Assembles asm unit is) said =
      absurd (assembled_is_not_refused input unit refusal is (subst (λ (t : Task). IsRefused t input refusal) asm why))
  refused_by task input text wanted verdict refusal why (Judges budget check v on) said =
      absurd (not_judged budget input v refusal on (subst (λ (t : Task). IsRefused t input refusal) check why))

  answer_refused : (task : Task) (input text : List ℕ) (wanted : Status) (verdict : Option Verdict) (refusal : Refusal) → asked ≡ Ok task → left ≡ Some input → IsRefused task input refusal
      → IsAnswer asked left left_now text wanted verdict → IsSaid text wanted verdict written written_now backing outcome → Refused refusal
  answer_refused task input text wanted verdict refusal command told why (ToWords number bad taken) said = absurd (let e : Ok task ≡ Err number = sym command ∙ bad in cc)
  answer_refused task input text wanted verdict refusal command told why (Generates number boards pages chosen taken) said =
      absurd (subst (λ (t : Task). IsRefused t input refusal) (sym (one_task task (Gen number boards pages) command chosen)) why)
  answer_refused task input text wanted verdict refusal command told why (ToInput other chosen had read text1 wanted1 verdict1 answer) said =
      let one : other ≡ task = one_task task other command chosen in
      let same : had ≡ input = read_input (limit_of other) left left_now input had told read in
      refused_by other had text wanted verdict refusal (subst (λ (z : Task × List ℕ). IsRefused z.0 z.1 refusal) (λ k. (sym one k, sym same k)) why) answer said

  pub answers_refusal : IsWay → AnswersRefusal asked left written written_now outcome
  answers_refusal (Answered text wanted verdict answer said) input task refusal command told why = answer_refused task input text wanted verdict refusal command told why answer said
  answers_refusal (NotRead other chosen reads_it taken silent) input task refusal command told why = (silent.report, silent.verdict, inr silent.is)
  answers_refusal (Wanting other chosen reads_it taken silent) input task refusal command told why = (silent.report, silent.verdict, inl (Nothing silent.is silent.put))
  answers_refusal (NotBegun order options flags unit other whole accepted failed broken) input task refusal command told why =
      absurd (not_accepted input other task order options flags unit refusal command told whole accepted why)
  answers_refusal (NotRun order options flags unit other whole accepted broken) input task refusal command told why =
      absurd (not_accepted input other task order options flags unit refusal command told whole accepted why)
  answers_refusal (Ran report given none holds) input task refusal command told why =
      absurd (not_accepted input holds.input task holds.order holds.options holds.flags holds.unit refusal command told holds.whole holds.accepted why)

  -- ---- completeness

  abbrev Completes : Task → Type 0
  Completes task = IsComplete left written written_now task outcome

  -- a text was put, or memory was wanting for it
  put_or : (text : List ℕ) (wanted : Status) → outcome.status ≢ status.WriteFault → IsWritten text wanted outcome.status written written_now → PutOrWanting text wanted written written_now outcome
  put_or text wanted no_write (Whole is put) = inl (is, put)
  put_or text wanted no_write (Front is put) = absurd (no_write is)
  put_or text wanted no_write (Nothing is put) = inr is

  reported_or : (flags : Flags) (report : Report) → outcome.report ≡ Some report → outcome.status ≢ status.WriteFault
      → IsWritten (report_text report flags) (status_of report) outcome.status written written_now → ReportedOrWanting flags written written_now outcome
  reported_or flags report given no_write (Whole is put) =
      inl (subst (λ (o : Option Report). IsSomeAnd o (λ r. (outcome.status ≡ status_of r) × Gains written written_now (report_text r flags))) (sym given) (is, put))
  reported_or flags report given no_write (Front is put) = absurd (no_write is)
  reported_or flags report given no_write (Nothing is put) = inr is

  wanting_completes : (task : Task) → outcome.status ≡ status.NoMemory → Completes task
  wanting_completes (Run order options flags) is = λ input unit told loadable. inr is
  wanting_completes (Check budget) is = λ input verdict told on. inr is
  wanting_completes Asm is = λ input unit told assembled. inr is
  wanting_completes (Gen number boards pages) is = inr is

  -- an input that is refused is none that is accepted
  refused_completes : (task : Task) (had : List ℕ) (refusal : Refusal) → IsRefused task had refusal → ((input : List ℕ) → left ≡ Some input → had ≡ input) → Completes task
  refused_completes (Run order options flags) had refusal why same = λ input unit told loadable.
      absurd (loadable_is_not_refused options input unit refusal loadable (subst (λ (i : List ℕ). IsRefused (Run order options flags) i refusal) (same input told) why))
  refused_completes (Check budget) had refusal why same = λ input verdict told on.
      absurd (not_judged budget input verdict refusal on (subst (λ (i : List ℕ). IsRefused (Check budget) i refusal) (same input told) why))
  refused_completes Asm had refusal why same = λ input unit told assembled.
      absurd (assembled_is_not_refused input unit refusal assembled (subst (λ (i : List ℕ). IsRefused Asm i refusal) (same input told) why))
  refused_completes (Gen number boards pages) had refusal why same = absurd why

  input_completes : (task : Task) (had text : List ℕ) (wanted : Status) (verdict : Option Verdict) → outcome.status ≢ status.WriteFault → ((input : List ℕ) → left ≡ Some input → had ≡ input)
      → IsInputAnswer task had text wanted verdict → IsWritten text wanted outcome.status written written_now → Completes task
  input_completes task had text wanted verdict no_write same (Refuses refusal why) put = refused_completes task had refusal why same
  input_completes task had text wanted verdict no_write same (Assembles asm unit is) put = subst Completes (sym asm) (λ input other told assembled.
      let one : unit ≡ other = one_is_assembled input unit other (subst (λ (i : List ℕ). IsAssembled i unit) (same input told) is) assembled in
      subst (λ (u : Program). PutOrWanting (object_bytes u) status.Fine written written_now outcome) one (put_or (object_bytes unit) status.Fine no_write put))
  input_completes task had text wanted verdict no_write same (Judges budget check v on) put = subst Completes (sym check) (λ input other told is.
      let one : v ≡ other = one_verdict budget input v other (subst (λ (i : List ℕ). IsVerdictOn budget i v) (same input told) on) is in
      subst (λ (w : Verdict). PutOrWanting (verdict_line w) (verdict_status w) written written_now outcome) one (put_or (verdict_line v) (verdict_status v) no_write put))

  answer_completes : (task : Task) (text : List ℕ) (wanted : Status) (verdict : Option Verdict) → asked ≡ Ok task → outcome.status ≢ status.WriteFault
      → IsAnswer asked left left_now text wanted verdict → IsWritten text wanted outcome.status written written_now → Completes task
  answer_completes task text wanted verdict command no_write (ToWords number bad taken) put = absurd (let e : Ok task ≡ Err number = sym command ∙ bad in cc)
  answer_completes task text wanted verdict command no_write (Generates number boards pages chosen taken) put =
      subst Completes (one_task task (Gen number boards pages) command chosen) (put_or (generated_text number boards pages) status.Fine no_write put)
  answer_completes task text wanted verdict command no_write (ToInput other chosen had read text1 wanted1 verdict1 answer) put =
      subst Completes (one_task task other command chosen)
      (input_completes other had text wanted verdict no_write (λ input told. read_input (limit_of other) left left_now input had told read) answer put)

  pub complete : IsWay → outcome.status ≢ status.ReadFault → outcome.status ≢ status.WriteFault → ((tells backing).faults < (tells outcome.backing).faults → ⊥)
      → (task : Task) → asked ≡ Ok task → Completes task
  complete (Answered text wanted verdict answer said) no_read no_write no_swap task command = answer_completes task text wanted verdict command no_write answer said.put
  complete (NotRead other chosen reads_it taken silent) no_read no_write no_swap task command = absurd (no_read silent.is)
  complete (Wanting other chosen reads_it taken silent) no_read no_write no_swap task command = wanting_completes task silent.is
  complete (NotBegun order options flags unit other whole accepted failed broken) no_read no_write no_swap task command = absurd (no_swap failed.rose)
  complete (NotRun order options flags unit other whole accepted broken) no_read no_write no_swap task command = wanting_completes task broken.is
  complete (Ran report given none holds) no_read no_write no_swap task command =
      subst Completes (one_task task (Run holds.order holds.options holds.flags) command holds.accepted.command)
      (λ input unit told loadable. reported_or holds.flags report given no_write holds.text_written)

  -- ---- the report or the verdict where writing failed

  abbrev Keeps : Task → Type 0
  Keeps task = IsStillGiven left task outcome

  refused_keeps : (task : Task) (had : List ℕ) (refusal : Refusal) → IsRefused task had refusal → ((input : List ℕ) → left ≡ Some input → had ≡ input) → Keeps task
  refused_keeps (Run order options flags) had refusal why same = λ input unit told loadable.
      absurd (loadable_is_not_refused options input unit refusal loadable (subst (λ (i : List ℕ). IsRefused (Run order options flags) i refusal) (same input told) why))
  refused_keeps (Check budget) had refusal why same = λ input verdict told on.
      absurd (not_judged budget input verdict refusal on (subst (λ (i : List ℕ). IsRefused (Check budget) i refusal) (same input told) why))
  refused_keeps Asm had refusal why same = tt
  refused_keeps (Gen number boards pages) had refusal why same = tt

  input_keeps : (task : Task) (had text : List ℕ) (wanted : Status) (verdict : Option Verdict) → ((input : List ℕ) → left ≡ Some input → had ≡ input)
      → IsInputAnswer task had text wanted verdict → outcome.verdict ≡ verdict → Keeps task
  input_keeps task had text wanted verdict same (Refuses refusal why) given = refused_keeps task had refusal why same
  input_keeps task had text wanted verdict same (Assembles asm unit is) given = subst Keeps (sym asm) tt
  input_keeps task had text wanted verdict same (Judges budget check v on) given = subst Keeps (sym check) (λ input other told is.
      let one : v ≡ other = one_verdict budget input v other (subst (λ (i : List ℕ). IsVerdictOn budget i v) (same input told) on) is in
      given ∙ ap (λ (w : Verdict). Some w) one)

  answer_keeps : (task : Task) (text : List ℕ) (wanted : Status) (verdict : Option Verdict) → asked ≡ Ok task
      → IsAnswer asked left left_now text wanted verdict → outcome.verdict ≡ verdict → Keeps task
  answer_keeps task text wanted verdict command (ToWords number bad taken) given = absurd (let e : Ok task ≡ Err number = sym command ∙ bad in cc)
  answer_keeps task text wanted verdict command (Generates number boards pages chosen taken) given = subst Keeps (one_task task (Gen number boards pages) command chosen) tt
  answer_keeps task text wanted verdict command (ToInput other chosen had read text1 wanted1 verdict1 answer) given =
      subst Keeps (one_task task other command chosen) (input_keeps other had text wanted verdict (λ input told. read_input (limit_of other) left left_now input had told read) answer given)

  pub kept : IsWay → outcome.status ≡ status.WriteFault → (task : Task) → asked ≡ Ok task → Keeps task
  kept (Answered text wanted verdict answer said) is task command = answer_keeps task text wanted verdict command answer said.given
  kept (NotRead other chosen reads_it taken silent) is task command = absurd (let e : status.ReadFault ≡ status.WriteFault = sym silent.is ∙ is in cc)
  kept (Wanting other chosen reads_it taken silent) is task command = absurd (let e : status.NoMemory ≡ status.WriteFault = sym silent.is ∙ is in cc)
  kept (NotBegun order options flags unit other whole accepted failed broken) is task command = absurd (let e : status.SwapAtStart ≡ status.WriteFault = sym broken.is ∙ is in cc)
  kept (NotRun order options flags unit other whole accepted broken) is task command = absurd (let e : status.NoMemory ≡ status.WriteFault = sym broken.is ∙ is in cc)
  kept (Ran report given none holds) is task command =
      subst Keeps (one_task task (Run holds.order holds.options holds.flags) command holds.accepted.command)
      (λ input unit told loadable. subst (λ (o : Option Report). IsSome o) (sym given) refl)
