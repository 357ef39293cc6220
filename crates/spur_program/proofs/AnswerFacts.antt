-- The causes of the top call's answers, from the way in which it ended.
use Rattle.std.proofs.Common.{◌≡◌, ◌≢◌, ℕ, Bool, true, false, List, [], Option, Some, None, Result, Ok, Err, refl, sym, ◌∙◌, subst}
use Rattle.std.specs.Prelude.{IfSome, IsSome, IsSomeAnd}
use Rattle.std.specs.List.{list_all}
use Rattle.spur_io.specs.Told.{Gains}
use Rattle.spur_swap.specs.Meaning.{Swap}
use Rattle.spur_probe.specs.Shown.{Told}
use Rattle.spur_report.specs.declared.report.Report.{Report}
use Rattle.spur_check.specs.declared.verdict.Verdict.{Verdict}
use Rattle.spur_check.specs.declared.verdict.Verdict.TheVariants.{Good, Bad}
use Rattle.spur_loader.specs.declared.opening.Options.{Options}
use Rattle.spur_report.specs.declared.report.Flags.{Flags}
use Rattle.spur_words.specs.declared.task.Order.{Order}
use Rattle.spur_words.specs.declared.task.Order.TheVariants.{Scheduled, Threads}
use Rattle.spur_words.specs.declared.task.Task.{Task}
use Rattle.spur_words.specs.declared.task.Task.TheVariants.{Run, Check, Asm, Gen}
use Rattle.spur_program.specs.declared.report.Outcome.{Outcome}
use Rattle.spur_program.specs.declared.report.Status.{Status}
use Rattle.spur_program.specs.declared.report.Status.TheVariants as status
use Rattle.spur_program.specs.Probes.{AreShown}
use Rattle.spur_program.specs.Texts.{words_line}
use Rattle.spur_program.specs.Accepted.{IsRead, limit_of}
use Rattle.spur_program.specs.Answer.{has_halted, verdict_status, IsAnswer, IsInputAnswer, IsWritten, Whole, Front, Nothing, Answered, NotRead, Wanting, NotBegun, NotRun, Ran, Way}
use Rattle.spur_program.specs.Answer.{Assembles, Generates, Judges, Refuses, ToInput, ToWords, AnswersWords, GivesVerdict, HandsBack, HasReadFault, HasSwapFault, WasDone, EndedOtherwise, IsHeadline, IsInputRefused, IsSaid, MayGive, MayJudge, HasHaltedUnstopped, ReportsHalted, ReportsStopped, WasStopped}
use Rattle.spur_program.proofs.WrittenFacts.{IsEndStatus, answers, end_answers, never, none_put, put_as, run_ended, run_ends, run_fine, run_stopped, verdict_ends}

-- a report or a verdict may be given with a status that was wanted for it, with a write fault, and with want of memory
end_gives : (s : Status) → IsEndStatus s → MayGive s
end_gives status.Fine is = tt
end_gives status.Ended is = tt
end_gives status.Words is = absurd is
end_gives status.Input is = absurd is
end_gives status.ReadFault is = absurd is
end_gives status.WriteFault is = tt
end_gives status.SwapAtStart is = absurd is
end_gives status.Stopped is = tt
end_gives status.NoMemory is = tt

written_gives : (text : List ℕ) (wanted got : Status) (written now : Option (List ℕ)) → IsEndStatus wanted → IsWritten text wanted got written now → MayGive got
written_gives text wanted got written now ends (Whole is put) = subst MayGive (sym is) (end_gives wanted ends)
written_gives text wanted got written now ends (Front is put) = subst MayGive (sym is) tt
written_gives text wanted got written now ends (Nothing is put) = subst MayGive (sym is) tt

end_no_words : (s : Status) → IsEndStatus s → s ≢ status.Words
end_no_words status.Words is same = is
end_no_words status.Fine is same = absurd cc
end_no_words status.Ended is same = absurd cc
end_no_words status.Input is same = is
end_no_words status.ReadFault is same = is
end_no_words status.WriteFault is same = is
end_no_words status.SwapAtStart is same = is
end_no_words status.Stopped is same = absurd cc
end_no_words status.NoMemory is same = is

end_no_input : (s : Status) → IsEndStatus s → s ≢ status.Input
end_no_input status.Words is same = is
end_no_input status.Fine is same = absurd cc
end_no_input status.Ended is same = absurd cc
end_no_input status.Input is same = is
end_no_input status.ReadFault is same = is
end_no_input status.WriteFault is same = is
end_no_input status.SwapAtStart is same = is
end_no_input status.Stopped is same = absurd cc
end_no_input status.NoMemory is same = is

-- no verdict stops a run
verdict_no_stop : (verdict : Verdict) → verdict_status verdict ≢ status.Stopped
verdict_no_stop (Good entries) is = cc
verdict_no_stop (Bad at clause wanted found) is = cc

module _ {B : Type 0} (tells : B → Swap) (probes : List Told) (asked : Result Task ℕ) (left left_now written written_now : Option (List ℕ)) (backing : B) (outcome : Outcome B) where
  abbrev IsWay : Type 0
  IsWay = Way tells probes asked left left_now written written_now backing outcome

  abbrev Runs : Report → Type 0
  Runs report = IsHeadline probes asked left left_now written written_now (tells backing) (tells outcome.backing) outcome.status report

  reports : (all : Bool) (report : Report) → outcome.report ≡ Some report → HasHaltedUnstopped all report → ReportsHalted all outcome
  reports all report given is = subst (λ (o : Option Report). IsSomeAnd o (HasHaltedUnstopped all)) (sym given) is

  reports_stop : (report : Report) → outcome.report ≡ Some report → IsSome report.stopped → ReportsStopped outcome
  reports_stop report given is = subst (λ (o : Option Report). IsSomeAnd o (λ r. IsSome r.stopped)) (sym given) is

  gives : (s : Status) (verdict : Verdict) → outcome.verdict ≡ Some verdict → verdict_status verdict ≡ s → GivesVerdict s outcome
  gives s verdict given is = subst (λ (o : Option Verdict). IsSomeAnd o (λ v. verdict_status v ≡ s)) (sym given) is

  -- the words ask for one task
  one_task : (task other : Task) → asked ≡ Ok task → asked ≡ Ok other → other ≡ task
  one_task task other command chosen = cc

  -- ---- done, or come to another end

  abbrev Done : Task → Type 0
  Done task = WasDone written written_now task outcome

  input_done : (task : Task) (input text : List ℕ) (wanted : Status) (verdict : Option Verdict) → IsInputAnswer task input text wanted verdict → wanted ≡ status.Fine
      → Gains written written_now text → outcome.verdict ≡ verdict → Done task
  input_done task input text wanted verdict (Refuses refusal why) is put given = absurd cc
  input_done task input text wanted verdict (Assembles asm unit said) is put given = subst Done (sym asm) record { text = input; unit = unit; assembled = said; put = put }
  input_done task input text wanted verdict (Judges budget check v on) is put given = subst Done (sym check) (gives status.Fine v given is)

  answer_done : (task : Task) (text : List ℕ) (wanted : Status) (verdict : Option Verdict) → IsAnswer asked left left_now text wanted verdict → wanted ≡ status.Fine
      → Gains written written_now text → outcome.verdict ≡ verdict → asked ≡ Ok task → Done task
  answer_done task text wanted verdict (ToWords number bad taken) is put given command = absurd cc
  answer_done task text wanted verdict (Generates number boards pages chosen taken) is put given command = subst Done (one_task task (Gen number boards pages) command chosen) put
  answer_done task text wanted verdict (ToInput other chosen input read text1 wanted1 verdict1 answer) is put given command =
      subst Done (one_task task other command chosen) (input_done other input text wanted verdict answer is put given)

  pub done : IsWay → outcome.status ≡ status.Fine → (task : Task) → asked ≡ Ok task → Done task
  done (Answered text wanted verdict answer said) is task command =
      let whole = put_as text wanted outcome.status status.Fine written written_now (λ x. cc) (λ x. cc) said.put is in
      answer_done task text wanted verdict answer whole.0 whole.1 said.given command
  done (NotRead other chosen reads_it taken silent) is task command = absurd (let e : status.ReadFault ≡ status.Fine = sym silent.is ∙ is in cc)
  done (Wanting other chosen reads_it taken silent) is task command = absurd (let e : status.NoMemory ≡ status.Fine = sym silent.is ∙ is in cc)
  done (NotBegun order options flags unit input whole accepted failed broken) is task command = absurd (let e : status.SwapAtStart ≡ status.Fine = sym broken.is ∙ is in cc)
  done (NotRun order options flags unit input whole accepted broken) is task command = absurd (let e : status.NoMemory ≡ status.Fine = sym broken.is ∙ is in cc)
  done (Ran report given none holds) is task command =
      subst Done (one_task task (Run holds.order holds.options holds.flags) command holds.accepted.command)
      (reports true report given (run_fine report.stopped (list_all has_halted report.boards) (put_as _ _ _ status.Fine _ _ (λ x. cc) (λ x. cc) holds.text_written is).0))

  input_ended : (task : Task) (input text : List ℕ) (wanted : Status) (verdict : Option Verdict) → IsInputAnswer task input text wanted verdict → wanted ≡ status.Ended
      → outcome.verdict ≡ verdict → EndedOtherwise task outcome
  input_ended task input text wanted verdict (Refuses refusal why) is given = absurd cc
  input_ended task input text wanted verdict (Assembles asm unit said) is given = absurd cc
  input_ended task input text wanted verdict (Judges budget check v on) is given = subst (λ (t : Task). EndedOtherwise t outcome) (sym check) (gives status.Ended v given is)

  answer_ended : (task : Task) (text : List ℕ) (wanted : Status) (verdict : Option Verdict) → IsAnswer asked left left_now text wanted verdict → wanted ≡ status.Ended
      → outcome.verdict ≡ verdict → asked ≡ Ok task → EndedOtherwise task outcome
  answer_ended task text wanted verdict (ToWords number bad taken) is given command = absurd cc
  answer_ended task text wanted verdict (Generates number boards pages chosen taken) is given command = absurd cc
  answer_ended task text wanted verdict (ToInput other chosen input read text1 wanted1 verdict1 answer) is given command =
      subst (λ (t : Task). EndedOtherwise t outcome) (one_task task other command chosen) (input_ended other input text wanted verdict answer is given)

  pub ended : IsWay → outcome.status ≡ status.Ended → (task : Task) → asked ≡ Ok task → EndedOtherwise task outcome
  ended (Answered text wanted verdict answer said) is task command =
      answer_ended task text wanted verdict answer (put_as _ _ _ status.Ended _ _ (λ x. cc) (λ x. cc) said.put is).0 said.given command
  ended (NotRead other chosen reads_it taken silent) is task command = absurd (let e : status.ReadFault ≡ status.Ended = sym silent.is ∙ is in cc)
  ended (Wanting other chosen reads_it taken silent) is task command = absurd (let e : status.NoMemory ≡ status.Ended = sym silent.is ∙ is in cc)
  ended (NotBegun order options flags unit input whole accepted failed broken) is task command = absurd (let e : status.SwapAtStart ≡ status.Ended = sym broken.is ∙ is in cc)
  ended (NotRun order options flags unit input whole accepted broken) is task command = absurd (let e : status.NoMemory ≡ status.Ended = sym broken.is ∙ is in cc)
  ended (Ran report given none holds) is task command =
      subst (λ (t : Task). EndedOtherwise t outcome) (one_task task (Run holds.order holds.options holds.flags) command holds.accepted.command)
      (reports false report given (run_ended report.stopped (list_all has_halted report.boards) (put_as _ _ _ status.Ended _ _ (λ x. cc) (λ x. cc) holds.text_written is).0))

  input_no_stop : (task : Task) (input text : List ℕ) (wanted : Status) (verdict : Option Verdict) → IsInputAnswer task input text wanted verdict → wanted ≢ status.Stopped
  input_no_stop task input text wanted verdict (Refuses refusal why) is = cc
  input_no_stop task input text wanted verdict (Assembles asm unit said) is = cc
  input_no_stop task input text wanted verdict (Judges budget check v on) is = verdict_no_stop v is

  answer_no_stop : (text : List ℕ) (wanted : Status) (verdict : Option Verdict) → IsAnswer asked left left_now text wanted verdict → wanted ≢ status.Stopped
  answer_no_stop text wanted verdict (ToWords number bad taken) is = cc
  answer_no_stop text wanted verdict (Generates number boards pages chosen taken) is = cc
  answer_no_stop text wanted verdict (ToInput other chosen input read text1 wanted1 verdict1 answer) is = input_no_stop other input text wanted verdict answer is

  -- on threads no run is stopped
  stops_by : (report : Report) → outcome.report ≡ Some report → (order : Order) (options : Options) (flags : Flags) → AreShown order probes report.history report.stopped report.lines → IsSome report.stopped
      → WasStopped (Run order options flags) outcome
  stops_by report given Threads options flags shown some = (let none : IsSome {T = ℕ × ℕ} None = subst (λ (s : Option (ℕ × ℕ)). IsSome s) shown.stop some in cc)
  stops_by report given (Scheduled schedule) options flags shown some = reports_stop report given some

  pub stopped : IsWay → outcome.status ≡ status.Stopped → (task : Task) → asked ≡ Ok task → WasStopped task outcome
  stopped (Answered text wanted verdict answer said) is task command =
      absurd (answer_no_stop text wanted verdict answer (put_as _ _ _ status.Stopped _ _ (λ x. cc) (λ x. cc) said.put is).0)
  stopped (NotRead other chosen reads_it taken silent) is task command = absurd (let e : status.ReadFault ≡ status.Stopped = sym silent.is ∙ is in cc)
  stopped (Wanting other chosen reads_it taken silent) is task command = absurd (let e : status.NoMemory ≡ status.Stopped = sym silent.is ∙ is in cc)
  stopped (NotBegun order options flags unit input whole accepted failed broken) is task command = absurd (let e : status.SwapAtStart ≡ status.Stopped = sym broken.is ∙ is in cc)
  stopped (NotRun order options flags unit input whole accepted broken) is task command = absurd (let e : status.NoMemory ≡ status.Stopped = sym broken.is ∙ is in cc)
  stopped (Ran report given none holds) is task command =
      subst (λ (t : Task). WasStopped t outcome) (one_task task (Run holds.order holds.options holds.flags) command holds.accepted.command)
      (stops_by report given holds.order holds.options holds.flags holds.shown
      (run_stopped report.stopped (list_all has_halted report.boards) (put_as _ _ _ status.Stopped _ _ (λ x. cc) (λ x. cc) holds.text_written is).0))

  -- ---- refusals

  refused_by : (task : Task) → asked ≡ Ok task → (input text : List ℕ) (wanted : Status) (verdict : Option Verdict) → IsRead (limit_of task) left left_now input
      → IsInputAnswer task input text wanted verdict → wanted ≡ status.Input → Gains written written_now text → IsInputRefused asked left left_now written written_now
  refused_by task command input text wanted verdict read (Refuses refusal why) is put =
      record { task = task; command = command; input = input; read = read; refusal = refusal; why = why; line = put }
  refused_by task command input text wanted verdict read (Assembles asm unit said) is put = absurd cc
  refused_by task command input text wanted verdict read (Judges budget check v on) is put = absurd (end_no_input (verdict_status v) (verdict_ends v) is)

  answer_refused : (text : List ℕ) (wanted : Status) (verdict : Option Verdict) → IsAnswer asked left left_now text wanted verdict → wanted ≡ status.Input → Gains written written_now text
      → IsInputRefused asked left left_now written written_now
  answer_refused text wanted verdict (ToWords number bad taken) is put = absurd cc
  answer_refused text wanted verdict (Generates number boards pages chosen taken) is put = absurd cc
  answer_refused text wanted verdict (ToInput task chosen input read text1 wanted1 verdict1 answer) is put = refused_by task chosen input text wanted verdict read answer is put

  pub input_refused : IsWay → outcome.status ≡ status.Input → IsInputRefused asked left left_now written written_now
  input_refused (Answered text wanted verdict answer said) is =
      let whole = put_as text wanted outcome.status status.Input written written_now (λ x. cc) (λ x. cc) said.put is in
      answer_refused text wanted verdict answer whole.0 whole.1
  input_refused (NotRead other chosen reads_it taken silent) is = absurd (let e : status.ReadFault ≡ status.Input = sym silent.is ∙ is in cc)
  input_refused (Wanting other chosen reads_it taken silent) is = absurd (let e : status.NoMemory ≡ status.Input = sym silent.is ∙ is in cc)
  input_refused (NotBegun order options flags unit input whole accepted failed broken) is = absurd (let e : status.SwapAtStart ≡ status.Input = sym broken.is ∙ is in cc)
  input_refused (NotRun order options flags unit input whole accepted broken) is = absurd (let e : status.NoMemory ≡ status.Input = sym broken.is ∙ is in cc)
  input_refused (Ran report given none holds) is = absurd (end_no_input _ (run_ends report.stopped (list_all has_halted report.boards)) (put_as _ _ _ status.Input _ _ (λ x. cc) (λ x. cc) holds.text_written is).0)

  -- an input that was read was answered, and no word was refused
  input_no_words : (task : Task) (input text : List ℕ) (wanted : Status) (verdict : Option Verdict) → IsInputAnswer task input text wanted verdict → wanted ≢ status.Words
  input_no_words task input text wanted verdict (Refuses refusal why) is = cc
  input_no_words task input text wanted verdict (Assembles asm unit said) is = cc
  input_no_words task input text wanted verdict (Judges budget check v on) is = end_no_words (verdict_status v) (verdict_ends v) is

  answer_no_words : (task : Task) → asked ≡ Ok task → (text : List ℕ) (wanted : Status) (verdict : Option Verdict) → IsAnswer asked left left_now text wanted verdict → wanted ≢ status.Words
  answer_no_words task command text wanted verdict (ToWords number bad taken) is = (let e : Ok task ≡ Err number = sym command ∙ bad in cc)
  answer_no_words task command text wanted verdict (Generates number boards pages chosen taken) is = cc
  answer_no_words task command text wanted verdict (ToInput other chosen input read text1 wanted1 verdict1 answer) is = input_no_words other input text wanted verdict answer is

  not_words : IsWay → (task : Task) → asked ≡ Ok task → outcome.status ≢ status.Words
  not_words (Answered text wanted verdict answer said) task command is =
      answer_no_words task command text wanted verdict answer (put_as _ _ _ status.Words _ _ (λ x. cc) (λ x. cc) said.put is).0
  not_words (NotRead other chosen reads_it taken silent) task command is = (let e : status.ReadFault ≡ status.Words = sym silent.is ∙ is in cc)
  not_words (Wanting other chosen reads_it taken silent) task command is = (let e : status.NoMemory ≡ status.Words = sym silent.is ∙ is in cc)
  not_words (NotBegun order options flags unit input whole accepted failed broken) task command is = (let e : status.SwapAtStart ≡ status.Words = sym broken.is ∙ is in cc)
  not_words (NotRun order options flags unit input whole accepted broken) task command is = (let e : status.NoMemory ≡ status.Words = sym broken.is ∙ is in cc)
  not_words (Ran report given none holds) task command is = end_no_words _ (run_ends report.stopped (list_all has_halted report.boards)) (put_as _ _ _ status.Words _ _ (λ x. cc) (λ x. cc) holds.text_written is).0

  abbrev RefusesWord : ℕ → Type 0
  RefusesWord number = (outcome.report ≡ None) × (outcome.verdict ≡ None) × IsWritten (words_line number) status.Words outcome.status written written_now

  -- words that are refused ask for no task
  no_task : (number : ℕ) (task : Task) → asked ≡ Err number → asked ≡ Ok task → ⊥
  no_task number task bad command = (let e : Ok task ≡ Err number = sym command ∙ bad in cc)

  answer_words : (number : ℕ) → asked ≡ Err number → (text : List ℕ) (wanted : Status) (verdict : Option Verdict) → IsAnswer asked left left_now text wanted verdict
      → IsSaid text wanted verdict written written_now backing outcome → RefusesWord number
  answer_words number is text wanted verdict (ToWords other bad taken) said =
      let one : other ≡ number = cc in
      (said.report, said.given, subst (λ (n : ℕ). IsWritten (words_line n) status.Words outcome.status written written_now) one said.put)
  answer_words number is text wanted verdict (Generates n boards pages chosen taken) said = absurd (no_task number (Gen n boards pages) is chosen)
  answer_words number is text wanted verdict (ToInput task chosen input read text1 wanted1 verdict1 answer) said = absurd (no_task number task is chosen)

  words_refused : (number : ℕ) → asked ≡ Err number → IsWay → RefusesWord number
  words_refused number is (Answered text wanted verdict answer said) = answer_words number is text wanted verdict answer said
  words_refused number is (NotRead task chosen reads_it taken silent) = absurd (no_task number task is chosen)
  words_refused number is (Wanting task chosen reads_it taken silent) = absurd (no_task number task is chosen)
  words_refused number is (NotBegun order options flags unit input whole accepted failed broken) = absurd (no_task number (Run order options flags) is accepted.command)
  words_refused number is (NotRun order options flags unit input whole accepted broken) = absurd (no_task number (Run order options flags) is accepted.command)
  words_refused number is (Ran report given none holds) = absurd (no_task number (Run holds.order holds.options holds.flags) is holds.accepted.command)

  words_by : (read : Result Task ℕ) → asked ≡ read → IsWay → AnswersWords read written written_now outcome
  words_by (Ok task) is way = not_words way task is
  words_by (Err number) is way = words_refused number is way

  pub answers_words : IsWay → AnswersWords (asked) written written_now outcome
  answers_words way = words_by (asked) refl way

  -- ---- faults, and want of memory

  pub read_failed : IsWay → outcome.status ≡ status.ReadFault → HasReadFault asked written written_now outcome
  read_failed (Answered text wanted verdict answer said) is = absurd (never _ _ _ status.ReadFault _ _ (answers _ _ _ _ _ _ answer) (λ x. x) (λ x. cc) (λ x. cc) said.put is)
  read_failed (NotRead task chosen reads_it taken silent) is =
      record { task = task; command = chosen; reads_it = reads_it; report = silent.report; verdict = silent.verdict; put = silent.put }
  read_failed (Wanting other chosen reads_it taken silent) is = absurd (let e : status.NoMemory ≡ status.ReadFault = sym silent.is ∙ is in cc)
  read_failed (NotBegun order options flags unit input whole accepted failed broken) is = absurd (let e : status.SwapAtStart ≡ status.ReadFault = sym broken.is ∙ is in cc)
  read_failed (NotRun order options flags unit input whole accepted broken) is = absurd (let e : status.NoMemory ≡ status.ReadFault = sym broken.is ∙ is in cc)
  read_failed (Ran report given none holds) is = absurd (let e = subst IsEndStatus (put_as _ _ _ status.ReadFault _ _ (λ x. cc) (λ x. cc) holds.text_written is).0 (run_ends report.stopped (list_all has_halted report.boards)) in e)

  pub swap_failed : IsWay → outcome.status ≡ status.SwapAtStart → HasSwapFault tells asked left left_now written written_now backing outcome
  swap_failed (Answered text wanted verdict answer said) is = absurd (never _ _ _ status.SwapAtStart _ _ (answers _ _ _ _ _ _ answer) (λ x. x) (λ x. cc) (λ x. cc) said.put is)
  swap_failed (NotRead other chosen reads_it taken silent) is = absurd (let e : status.ReadFault ≡ status.SwapAtStart = sym silent.is ∙ is in cc)
  swap_failed (Wanting other chosen reads_it taken silent) is = absurd (let e : status.NoMemory ≡ status.SwapAtStart = sym silent.is ∙ is in cc)
  swap_failed (NotBegun order options flags unit input whole accepted failed broken) is =
      record { order = order; options = options; flags = flags; unit = unit; input = input; whole = whole; accepted = accepted; failed = failed; report = broken.report; verdict = broken.verdict; put = broken.put }
  swap_failed (NotRun order options flags unit input whole accepted broken) is = absurd (let e : status.NoMemory ≡ status.SwapAtStart = sym broken.is ∙ is in cc)
  swap_failed (Ran report given none holds) is = absurd (let e = subst IsEndStatus (put_as _ _ _ status.SwapAtStart _ _ (λ x. cc) (λ x. cc) holds.text_written is).0 (run_ends report.stopped (list_all has_halted report.boards)) in e)

  pub nothing_put : IsWay → outcome.status ≡ status.NoMemory → Gains written written_now []
  nothing_put (Answered text wanted verdict answer said) is = none_put _ _ _ _ _ (answers _ _ _ _ _ _ answer) said.put is
  nothing_put (NotRead other chosen reads_it taken silent) is = silent.put
  nothing_put (Wanting other chosen reads_it taken silent) is = silent.put
  nothing_put (NotBegun order options flags unit input whole accepted failed broken) is = broken.put
  nothing_put (NotRun order options flags unit input whole accepted broken) is = broken.put
  nothing_put (Ran report given none holds) is = none_put _ _ _ _ _ (end_answers _ (run_ends report.stopped (list_all has_halted report.boards))) holds.text_written is

  -- ---- the swap

  pub swap_stays : IsWay → outcome.report ≡ None → outcome.status ≢ status.SwapAtStart → outcome.status ≢ status.NoMemory → outcome.backing ≡ backing
  swap_stays (Answered text wanted verdict answer said) no_report begun memory = said.same
  swap_stays (NotRead other chosen reads_it taken silent) no_report begun memory = silent.same
  swap_stays (Wanting other chosen reads_it taken silent) no_report begun memory = silent.same
  swap_stays (NotBegun order options flags unit input whole accepted failed broken) no_report begun memory = absurd (begun broken.is)
  swap_stays (NotRun order options flags unit input whole accepted broken) no_report begun memory = absurd (memory broken.is)
  swap_stays (Ran report given none holds) no_report begun memory = absurd (let e : Some report ≡ None = sym given ∙ no_report in cc)

  back_as : (task : Task) → outcome.backing ≡ backing → HandsBack backing task outcome
  back_as (Run order options flags) same = tt
  back_as (Check budget) same = same
  back_as Asm same = same
  back_as (Gen number boards pages) same = same

  run_back : (task : Task) (order : _) (options : _) (flags : _) → asked ≡ Ok task → asked ≡ Ok (Run order options flags) → HandsBack backing task outcome
  run_back task order options flags command chosen = subst (λ (t : Task). HandsBack backing t outcome) (one_task task (Run order options flags) command chosen) tt

  pub hands_back : IsWay → (task : Task) → asked ≡ Ok task → HandsBack backing task outcome
  hands_back (Answered text wanted verdict answer said) task command = back_as task said.same
  hands_back (NotRead other chosen reads_it taken silent) task command = back_as task silent.same
  hands_back (Wanting other chosen reads_it taken silent) task command = back_as task silent.same
  hands_back (NotBegun order options flags unit input whole accepted failed broken) task command = run_back task order options flags command accepted.command
  hands_back (NotRun order options flags unit input whole accepted broken) task command = run_back task order options flags command accepted.command
  hands_back (Ran report given none holds) task command = run_back task holds.order holds.options holds.flags command holds.accepted.command

  -- ---- what is given

  no_report : outcome.report ≡ None → IsSome outcome.report → ⊥
  no_report none given = (let e = subst (λ (o : Option Report). IsSome o) none given in cc)

  no_verdict : outcome.verdict ≡ None → IsSome outcome.verdict → ⊥
  no_verdict none given = (let e = subst (λ (o : Option Verdict). IsSome o) none given in cc)

  pub report_given : IsWay → IsSome outcome.report → MayGive outcome.status
  report_given (Answered text wanted verdict answer said) some = absurd (no_report said.report some)
  report_given (NotRead other chosen reads_it taken silent) some = absurd (no_report silent.report some)
  report_given (Wanting other chosen reads_it taken silent) some = absurd (no_report silent.report some)
  report_given (NotBegun order options flags unit input whole accepted failed broken) some = absurd (no_report broken.report some)
  report_given (NotRun order options flags unit input whole accepted broken) some = absurd (no_report broken.report some)
  report_given (Ran report given none holds) some = written_gives _ _ _ _ _ (run_ends report.stopped (list_all has_halted report.boards)) holds.text_written

  -- a verdict is given with the same statuses
  input_gives : (task : Task) (input text : List ℕ) (wanted : Status) (verdict : Option Verdict) → IsInputAnswer task input text wanted verdict → outcome.verdict ≡ verdict
      → IsSome outcome.verdict → IsWritten text wanted outcome.status written written_now → MayGive outcome.status
  input_gives task input text wanted verdict (Refuses refusal why) given some put = absurd (no_verdict given some)
  input_gives task input text wanted verdict (Assembles asm unit said) given some put = absurd (no_verdict given some)
  input_gives task input text wanted verdict (Judges budget check v on) given some put = written_gives _ _ _ _ _ (verdict_ends v) put

  answer_gives : (text : List ℕ) (wanted : Status) (verdict : Option Verdict) → IsAnswer asked left left_now text wanted verdict → outcome.verdict ≡ verdict
      → IsSome outcome.verdict → IsWritten text wanted outcome.status written written_now → MayGive outcome.status
  answer_gives text wanted verdict (ToWords number bad taken) given some put = absurd (no_verdict given some)
  answer_gives text wanted verdict (Generates number boards pages chosen taken) given some put = absurd (no_verdict given some)
  answer_gives text wanted verdict (ToInput task chosen input read text1 wanted1 verdict1 answer) given some put = input_gives task input text wanted verdict answer given some put

  verdict_unstopped : IsWay → IsSome outcome.verdict → outcome.status ≢ status.Stopped
  verdict_unstopped (Answered text wanted verdict answer said) some is = answer_no_stop text wanted verdict answer (put_as _ _ _ status.Stopped _ _ (λ x. cc) (λ x. cc) said.put is).0
  verdict_unstopped (NotRead other chosen reads_it taken silent) some is = no_verdict silent.verdict some
  verdict_unstopped (Wanting other chosen reads_it taken silent) some is = no_verdict silent.verdict some
  verdict_unstopped (NotBegun order options flags unit input whole accepted failed broken) some is = no_verdict broken.verdict some
  verdict_unstopped (NotRun order options flags unit input whole accepted broken) some is = no_verdict broken.verdict some
  verdict_unstopped (Ran report given none holds) some is = no_verdict none some

  given_with : IsWay → IsSome outcome.verdict → MayGive outcome.status
  given_with (Answered text wanted verdict answer said) some = answer_gives text wanted verdict answer said.given some said.put
  given_with (NotRead other chosen reads_it taken silent) some = absurd (no_verdict silent.verdict some)
  given_with (Wanting other chosen reads_it taken silent) some = absurd (no_verdict silent.verdict some)
  given_with (NotBegun order options flags unit input whole accepted failed broken) some = absurd (no_verdict broken.verdict some)
  given_with (NotRun order options flags unit input whole accepted broken) some = absurd (no_verdict broken.verdict some)
  given_with (Ran report given none holds) some = absurd (no_verdict none some)

  pub verdict_given : IsWay → IsSome outcome.verdict → MayJudge outcome.status
  verdict_given way some = (verdict_unstopped way some, given_with way some)

  pub headline_of : IsWay → IfSome outcome.report Runs
  headline_of (Answered text wanted verdict answer said) = subst (λ (o : Option Report). IfSome o Runs) (sym said.report) tt
  headline_of (NotRead other chosen reads_it taken silent) = subst (λ (o : Option Report). IfSome o Runs) (sym silent.report) tt
  headline_of (Wanting other chosen reads_it taken silent) = subst (λ (o : Option Report). IfSome o Runs) (sym silent.report) tt
  headline_of (NotBegun order options flags unit input whole accepted failed broken) = subst (λ (o : Option Report). IfSome o Runs) (sym broken.report) tt
  headline_of (NotRun order options flags unit input whole accepted broken) = subst (λ (o : Option Report). IfSome o Runs) (sym broken.report) tt
  headline_of (Ran report given none holds) = subst (λ (o : Option Report). IfSome o Runs) (sym given) holds
