-- How the ways of the top call come about.
use Rattle.std.proofs.Common.{◌≡◌, ◌≢◌, ℕ, ◌<◌, ◌≤◌, ◌+◌, true, List, [], length, Option, Some, None, Result, Ok, refl, sym, ap, ◌∙◌, subst, append-nil, arith}
use Rattle.std.specs.List.{list_all}
use Rattle.std.proofs.lemmas.List.{length-append}
use Rattle.spur_io.specs.Told.{Loses, LosesAtMost, LosesCount, IsAtEnd, Gains}
use Rattle.spur_io.specs.declared.whole.ReadAll.{ReadAll}
use Rattle.spur_io.specs.declared.whole.ReadAll.TheVariants as reading
use Rattle.spur_swap.specs.Meaning.{Swap}
use Rattle.spur_probe.specs.Shown.{Told}
use Rattle.spur_loader.specs.declared.opening.Opening.{Opening}
use Rattle.spur_loader.specs.declared.opening.Options.{Options}
use Rattle.spur_report.specs.declared.report.Flags.{Flags}
use Rattle.spur_report.specs.declared.report.Report.{Report}
use Rattle.spur_report.specs.Texts.{report_text}
use Rattle.spur_words.specs.declared.task.Order.{Order}
use Rattle.spur_words.specs.declared.task.Task.{Task}
use Rattle.spur_words.specs.declared.task.Task.TheVariants.{Run, Check, Asm, Gen}
use Rattle.spur_input.specs.declared.refusal.NotAccepted.{NotAccepted}
use Rattle.spur_input.specs.declared.refusal.NotAccepted.TheVariants as unaccepted
use Rattle.spur_input.specs.declared.refusal.Refusal.{Refusal}
use Rattle.spur_input.specs.declared.refusal.Refusal.TheVariants.{TooLong}
use Rattle.spur_input.specs.Program.{IsOpeningOf}
use Rattle.spur_input.specs.Refused.{IsLong, IsLongInput, IsLongText}
use Rattle.spur_input.specs.Texts.{refusal_line}
use Rattle.spur_program.specs.declared.run.RunFault.{RunFault}
use Rattle.spur_program.specs.declared.run.RunFault.TheVariants.{SwapAtStart, NoMemory}
use Rattle.spur_program.specs.declared.report.Outcome.{Outcome}
use Rattle.spur_program.specs.declared.report.Status.{Status}
use Rattle.spur_program.specs.declared.report.Status.TheVariants as status
use Rattle.spur_program.specs.Accepted.{IsLeft, IsRefused, IsWhole, ReadFront, ReadWhole, limit_of, reads_input}
use Rattle.spur_program.specs.Probes.{AreShown}
use Rattle.spur_program.specs.Reports.{IsReportOf}
use Rattle.spur_program.specs.Runs.{HasFailedAtStart}
use Rattle.spur_program.proofs.InvisibleFacts.{on_plain_memory}
use Rattle.spur_program.proofs.WrittenFacts.{end_answers, input_answers, never, run_ends}
use Rattle.spur_program.specs.Answer.{InputAnswered, Said, Unsaid, Reported, Unbegun, Undone, IsSaid, IsSilent, IsTracedGood, IsWritten, Refuses, ToInput, fault_status, has_halted, status_of, Way, Answered, NotRead, Wanting, NotBegun, NotRun, Ran}

-- nothing was put, and nothing was taken
pub gains-none : (written : Option (List ℕ)) → Gains written written []
gains-none None = tt
gains-none (Some bytes) = sym (append-nil bytes)

pub loses-none : (left : Option (List ℕ)) → Loses left left []
loses-none None = tt
loses-none (Some bytes) = refl

-- another name for the text that was to be written
pub said_as : {B : Type 0} (line text : List ℕ) (wanted : Status) (verdict : _) (written now : Option (List ℕ)) (backing : B) (outcome : Outcome B) → line ≡ text
    → IsSaid line wanted verdict written now backing outcome → IsSaid text wanted verdict written now backing outcome
said_as line text wanted verdict written now backing outcome same is = subst (λ (bytes : List ℕ). IsSaid bytes wanted verdict written now backing outcome) same is

-- what was read whole
pub whole_of : (left left_now : Option (List ℕ)) (input text : List ℕ) → text ≡ input → Loses left left_now input → IsAtEnd left_now → IsWhole left left_now text
whole_of left left_now input text same given end =
    record { given = subst (λ (bytes : List ℕ). Loses left left_now bytes) (sym same) given; end = end }

-- ---- an input with too many bytes

long_refused : (task : Task) (input : List ℕ) → reads_input task ≡ true → limit_of task < length input → IsRefused task input (TooLong (limit_of task))
long_refused (Run order options flags) input reads_it long = IsLong long
long_refused (Check budget) input reads_it long = IsLongInput long
long_refused Asm input reads_it long = IsLongText long
long_refused (Gen number boards pages) input reads_it long = absurd cc

-- a front of one byte more than the limit was taken of some input with too many bytes
record HasLongInput (limit : ℕ) (left left_now : Option (List ℕ)) : Type 0 where
  pub input : List ℕ
  pub long : limit < length input
  pub had : IsLeft left input

long_input : (limit : ℕ) (left left_now : Option (List ℕ)) (bytes : List ℕ) → Loses left left_now bytes → length bytes ≡ limit + 1 → HasLongInput limit left left_now
long_input limit None None bytes loses count = record { input = bytes; long = omega arith; had = tt }
long_input limit None (Some new) bytes loses count = absurd loses
long_input limit (Some old) None bytes loses count = absurd loses
long_input limit (Some old) (Some new) bytes loses count =
    record { input = old; long = (let same : length old ≡ length bytes + length new = ap length loses ∙ length-append bytes new in omega arith); had = refl }

-- ---- what an input that was read whole is answered

module _ {B : Type 0} (tells : B → Swap) (probes : List Told) (input : List ℕ) (order : Order) (options : Options) (flags : Flags) (written written_now : Option (List ℕ)) (backing other : B) (outcome : Outcome B) where
  abbrev IsRunAnswered : Type 0
  IsRunAnswered = InputAnswered tells probes (Run order options flags) input written written_now backing outcome

  -- the run of an opening was reported
  pub report_answered : (opening : Opening) (report : Report) → IsOpeningOf options input opening → IsReportOf opening order (tells backing) (tells other) report
      → AreShown order probes report.history report.stopped report.lines → IsTracedGood opening flags (tells other) outcome.status report → outcome.report ≡ Some report → outcome.verdict ≡ None → outcome.backing ≡ other
      → IsWritten (report_text report flags) (status_of report) outcome.status written written_now → IsRunAnswered
  report_answered opening report opens reports shown traced given none same put =
      Reported order options flags refl opens.unit opens.loadable report given none
      (subst (λ (z : Opening × B). IsReportOf z.0 order (tells backing) (tells z.1) report) (λ k. (opens.is k, sym same k)) reports) shown put
      (subst (λ (z : Opening × B). IsTracedGood z.0 flags (tells z.1) outcome.status report) (λ k. (opens.is k, sym same k)) traced)

  -- the boards of an opening were not run to their ends
  pub fault_answered : (opening : Opening) (fault : RunFault) → IsOpeningOf options input opening → (fault ≡ SwapAtStart → HasFailedAtStart (tells backing) (tells other)) → outcome.backing ≡ other
      → outcome.report ≡ None → outcome.verdict ≡ None → outcome.status ≡ fault_status fault → Gains written written_now [] → IsRunAnswered
  fault_answered opening SwapAtStart opens cause same none also at put =
      Unbegun order options flags refl opens.unit opens.loadable (subst (λ (b : B). HasFailedAtStart (tells backing) (tells b)) (sym same) (cause refl))
      record { is = at; report = none; verdict = also; put = put }
  fault_answered opening NoMemory opens cause same none also at put = Undone order options flags refl opens.unit opens.loadable record { is = at; report = none; verdict = also; put = put }

-- an input that was read whole is never answered by a fault in reading
pub input_no_read : {B : Type 0} (tells : B → Swap) (probes : List Told) (task : Task) (input : List ℕ) (written written_now : Option (List ℕ)) (backing : B) (outcome : Outcome B)
    → InputAnswered tells probes task input written written_now backing outcome → outcome.status ≢ status.ReadFault
input_no_read tells probes task input written written_now backing outcome (Said text wanted verdict answer said) is =
    never text wanted outcome.status status.ReadFault written written_now (input_answers task input text wanted verdict answer) (λ x. x) (λ x. cc) (λ x. cc) said.put is
input_no_read tells probes task input written written_now backing outcome (Unsaid silent) is = (let e : status.NoMemory ≡ status.ReadFault = sym silent.is ∙ is in cc)
input_no_read tells probes task input written written_now backing outcome (Reported order options flags run unit loadable report given none reports shown put traced) is =
    never _ _ outcome.status status.ReadFault written written_now (end_answers _ (run_ends report.stopped (list_all has_halted report.boards))) (λ x. x) (λ x. cc) (λ x. cc) put is
input_no_read tells probes task input written written_now backing outcome (Unbegun order options flags run unit loadable failed broken) is = (let e : status.SwapAtStart ≡ status.ReadFault = sym broken.is ∙ is in cc)
input_no_read tells probes task input written written_now backing outcome (Undone order options flags run unit loadable broken) is = (let e : status.NoMemory ≡ status.ReadFault = sym broken.is ∙ is in cc)

-- what the words ask for, by another name
pub asked_as : {B : Type 0} (tells : B → Swap) (probes : List Told) (asked other : Result Task ℕ) (left left_now written written_now : Option (List ℕ)) (backing : B) (outcome : Outcome B) → asked ≡ other
    → Way tells probes other left left_now written written_now backing outcome → Way tells probes asked left left_now written written_now backing outcome
asked_as tells probes asked other left left_now written written_now backing outcome same way =
    subst (λ (a : Result Task ℕ). Way tells probes a left left_now written written_now backing outcome) (sym same) way

-- an input that is not accepted
pub not_accepted_answered : {B : Type 0} (tells : B → Swap) (probes : List Told) (task : Task) (input : List ℕ) (written written_now : Option (List ℕ)) (backing : B) (outcome : Outcome B) (why : NotAccepted)
    → ((refusal : Refusal) → why ≡ unaccepted.Refused refusal → IsRefused task input refusal)
    → ((refusal : Refusal) → why ≡ unaccepted.Refused refusal → IsSaid (refusal_line refusal) status.Input None written written_now backing outcome)
    → (why ≡ unaccepted.NoMemory → IsSilent status.NoMemory written written_now backing outcome)
    → InputAnswered tells probes task input written written_now backing outcome
not_accepted_answered tells probes task input written written_now backing outcome (unaccepted.Refused refusal) cause said silent =
    Said (refusal_line refusal) status.Input None (Refuses refusal (cause refusal refl)) (said refusal refl)
not_accepted_answered tells probes task input written written_now backing outcome unaccepted.NoMemory cause said silent = Unsaid (silent refl)

-- ---- the ways

module _ {B : Type 0} (tells : B → Swap) (probes : List Told) (asked : Result Task ℕ) (left left_now written written_now : Option (List ℕ)) (backing : B) (outcome : Outcome B) (task : Task) (command : asked ≡ Ok task) where
  abbrev IsSomeWay : Type 0
  IsSomeWay = Way tells probes asked left left_now written written_now backing outcome

  -- one byte more than the limit was taken
  read_long : reads_input task ≡ true → LosesCount left left_now (limit_of task + 1)
      → IsSaid (refusal_line (TooLong (limit_of task))) status.Input None written written_now backing outcome → IsSomeWay
  read_long reads_it taken said =
      let long = long_input (limit_of task) left left_now taken.0 taken.1 taken.2 in
      let answer = Refuses (TooLong (limit_of task)) (long_refused task long.input reads_it long.long) in
      Answered (refusal_line (TooLong (limit_of task))) status.Input None
      (ToInput task command long.input (ReadFront long.long long.had taken) (refusal_line (TooLong (limit_of task))) status.Input None answer) said

  -- an input that was not read whole
  pub read_not : reads_input task ≡ true → (why : ReadAll) → (why ≡ reading.TooLong → LosesCount left left_now (limit_of task + 1)) → LosesAtMost left left_now (limit_of task + 1)
      → (why ≡ reading.TooLong → IsSaid (refusal_line (TooLong (limit_of task))) status.Input None written written_now backing outcome)
      → (why ≡ reading.ReadFault → IsSilent status.ReadFault written written_now backing outcome)
      → (why ≡ reading.NoMemory → IsSilent status.NoMemory written written_now backing outcome) → IsSomeWay
  read_not reads_it reading.TooLong taken most said failed wanting = read_long reads_it (taken refl) (said refl)
  read_not reads_it reading.ReadFault taken most said failed wanting = NotRead task command reads_it most (failed refl)
  read_not reads_it reading.NoMemory taken most said failed wanting = Wanting task command reads_it most (wanting refl)

  -- an input that was read whole ends in one of five ways
  pub read_whole : reads_input task ≡ true → (input : List ℕ) → IsWhole left left_now input → length input ≤ limit_of task → InputAnswered tells probes task input written written_now backing outcome → IsSomeWay
  read_whole reads_it input whole within (Said text wanted verdict answer said) =
      Answered text wanted verdict (ToInput task command input (ReadWhole within whole) text wanted verdict answer) said
  read_whole reads_it input whole within (Unsaid silent) = Wanting task command reads_it (input, whole.given, omega (arith, within)) silent
  read_whole reads_it input whole within (Reported order options flags run unit loadable report given none reports shown put traced) =
      Ran report given none record {
        input = input;
        whole = whole;
        order = order;
        options = options;
        flags = flags;
        unit = unit;
        accepted = record { command = command ∙ ap (λ (t : Task). Ok t) run; loadable = loadable };
        reports = reports;
        invisible = on_plain_memory options input unit order (tells backing) (tells outcome.backing) report loadable reports;
        shown = shown;
        text_written = put;
        traced = traced;
      }
  read_whole reads_it input whole within (Unbegun order options flags run unit loadable failed broken) =
      NotBegun order options flags unit input whole record { command = command ∙ ap (λ (t : Task). Ok t) run; loadable = loadable } failed broken
  read_whole reads_it input whole within (Undone order options flags run unit loadable broken) =
      NotRun order options flags unit input whole record { command = command ∙ ap (λ (t : Task). Ok t) run; loadable = loadable } broken
