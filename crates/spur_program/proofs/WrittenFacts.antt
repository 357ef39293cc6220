-- Texts that were to be written, and their statuses.
use Rattle.std.proofs.Common.{◌≡◌, ◌≢◌, ℕ, Bool, true, false, List, [], ◌++◌, Option, Some, None, Result, refl, sym, ap, ◌∙◌, subst, append-nil}
use Rattle.std.specs.Prelude.{IsSome}
use Rattle.spur_io.specs.Told.{Loses, IsAtEnd, Gains}
use Rattle.spur_check.specs.declared.verdict.Verdict.{Verdict}
use Rattle.spur_check.specs.declared.verdict.Verdict.TheVariants.{Good, Bad}
use Rattle.spur_words.specs.declared.task.Task.{Task}
use Rattle.spur_program.specs.declared.report.Status.{Status}
use Rattle.spur_program.specs.declared.report.Status.TheVariants as status
use Rattle.spur_program.specs.Accepted.{IsLeft, IsRead, ReadFront, ReadWhole}
use Rattle.spur_program.specs.Answer.{IsAnswer, IsInputAnswer, IsWritten, Whole, Front, Nothing, Assembles, Generates, Judges, Refuses, ToInput, ToWords, status_by, verdict_status}

-- ---- the status of a run

pub run_fine : (stopped : Option (ℕ × ℕ)) (all : Bool) → status_by stopped all ≡ status.Fine → (stopped ≡ None) × (all ≡ true)
run_fine None true is = (refl, refl)
run_fine None false is = absurd cc
run_fine (Some stop) all is = absurd cc

pub run_ended : (stopped : Option (ℕ × ℕ)) (all : Bool) → status_by stopped all ≡ status.Ended → (stopped ≡ None) × (all ≡ false)
run_ended None true is = absurd cc
run_ended None false is = (refl, refl)
run_ended (Some stop) all is = absurd cc

pub run_stopped : (stopped : Option (ℕ × ℕ)) (all : Bool) → status_by stopped all ≡ status.Stopped → IsSome stopped
run_stopped None true is = absurd cc
run_stopped None false is = absurd cc
run_stopped (Some stop) all is = refl

-- what a command that was answered may have as its status
abbrev pub IsAnswerStatus : Status → Type 0
IsAnswerStatus status.Fine = Unit {0}
IsAnswerStatus status.Ended = Unit {0}
IsAnswerStatus status.Words = Unit {0}
IsAnswerStatus status.Input = Unit {0}
IsAnswerStatus status.ReadFault = ⊥
IsAnswerStatus status.WriteFault = ⊥
IsAnswerStatus status.SwapAtStart = ⊥
IsAnswerStatus status.Stopped = Unit {0}
IsAnswerStatus status.NoMemory = ⊥

-- what a run that was reported or a trace that was judged may have
abbrev pub IsEndStatus : Status → Type 0
IsEndStatus status.Fine = Unit {0}
IsEndStatus status.Ended = Unit {0}
IsEndStatus status.Stopped = Unit {0}
IsEndStatus other = ⊥

pub run_ends : (stopped : Option (ℕ × ℕ)) (all : Bool) → IsEndStatus (status_by stopped all)
run_ends None true = tt
run_ends None false = tt
run_ends (Some stop) all = tt

pub verdict_ends : (verdict : Verdict) → IsEndStatus (verdict_status verdict)
verdict_ends (Good entries) = tt
verdict_ends (Bad at clause wanted found) = tt

pub end_answers : (s : Status) → IsEndStatus s → IsAnswerStatus s
end_answers status.Fine is = tt
end_answers status.Ended is = tt
end_answers status.Words is = tt
end_answers status.Input is = tt
end_answers status.ReadFault is = absurd is
end_answers status.WriteFault is = absurd is
end_answers status.SwapAtStart is = absurd is
end_answers status.Stopped is = tt
end_answers status.NoMemory is = absurd is

-- ---- texts that were put

-- a text whose status is none of a write fault and of want of memory was put whole, and its status is the wanted one
whole_put : (text : List ℕ) (wanted got : Status) (written now : Option (List ℕ)) → IsWritten text wanted got written now
    → got ≢ status.WriteFault → got ≢ status.NoMemory → (got ≡ wanted) × Gains written now text
whole_put text wanted got written now (Whole is put) no_fault memory = (is, put)
whole_put text wanted got written now (Front is put) no_fault memory = absurd (no_fault is)
whole_put text wanted got written now (Nothing is put) no_fault memory = absurd (memory is)

-- a text was put whole with this status, which neither a write fault nor want of memory is
pub put_as : (text : List ℕ) (wanted got other : Status) (written now : Option (List ℕ)) → other ≢ status.WriteFault → other ≢ status.NoMemory
    → IsWritten text wanted got written now → got ≡ other → (wanted ≡ other) × Gains written now text
put_as text wanted got other written now no_fault memory put is =
    let whole = whole_put text wanted got written now put (λ e. no_fault (sym is ∙ e)) (λ e. memory (sym is ∙ e)) in
    (sym whole.0 ∙ is, whole.1)

-- the only status of want of memory puts nothing
pub none_put : (text : List ℕ) (wanted got : Status) (written now : Option (List ℕ)) → IsAnswerStatus wanted → IsWritten text wanted got written now
    → got ≡ status.NoMemory → Gains written now []
none_put text wanted got written now answers (Whole is put) memory = absurd (subst IsAnswerStatus (sym is ∙ memory) answers)
none_put text wanted got written now answers (Front is put) memory = absurd (let e : status.WriteFault ≡ status.NoMemory = sym is ∙ memory in cc)
none_put text wanted got written now answers (Nothing is put) memory = put

-- a status that an answer never has
pub never : (text : List ℕ) (wanted got other : Status) (written now : Option (List ℕ)) → IsAnswerStatus wanted → (IsAnswerStatus other → ⊥) → other ≢ status.WriteFault → other ≢ status.NoMemory
    → IsWritten text wanted got written now → got ≢ other
never text wanted got other written now answers not no_fault memory put is =
    let whole = put_as text wanted got other written now no_fault memory put is in
    not (subst IsAnswerStatus whole.0 answers)

-- ---- answers without boards

pub input_answers : (task : _) (input text : List ℕ) (wanted : Status) (verdict : Option Verdict) → IsInputAnswer task input text wanted verdict → IsAnswerStatus wanted
input_answers task input text wanted verdict (Refuses refusal why) = tt
input_answers task input text wanted verdict (Assembles asm unit is) = tt
input_answers task input text wanted verdict (Judges budget check v on) = end_answers (verdict_status v) (verdict_ends v)

pub answers : (asked : Result Task ℕ) (left left_now : Option (List ℕ)) (text : List ℕ) (wanted : Status) (verdict : Option Verdict) → IsAnswer asked left left_now text wanted verdict → IsAnswerStatus wanted
answers asked left left_now text wanted verdict (ToWords number bad taken) = tt
answers asked left left_now text wanted verdict (Generates number boards pages chosen taken) = tt
answers asked left left_now text wanted verdict (ToInput task chosen input read text1 wanted1 verdict1 answer) = input_answers task input text wanted verdict answer

-- ---- what a source that tells was read of

-- what a source that tells gave whole is what it had left
pub same_input : (old new : Option (List ℕ)) (input other : List ℕ) → old ≡ Some input → Loses old new other → IsAtEnd new → other ≡ input
same_input None new input other told loses end = absurd cc
same_input (Some old) None input other told loses end = absurd loses
same_input (Some old) (Some new) input other told loses end =
    let is : old ≡ input = cc in
    sym (append-nil other) ∙ sym (ap (λ (rest : List ℕ). other ++ rest) end) ∙ sym loses ∙ is

left_input : (old : Option (List ℕ)) (input other : List ℕ) → old ≡ Some input → IsLeft old other → other ≡ input
left_input None input other told left = absurd cc
left_input (Some old) input other told left = (let is : old ≡ input = cc in sym left ∙ is)

-- the input that was read of a source that tells is what it had left
pub read_input : (limit : ℕ) (old new : Option (List ℕ)) (input other : List ℕ) → old ≡ Some input → IsRead limit old new other → other ≡ input
read_input limit old new input other told (ReadWhole within whole) = same_input old new input other told whole.given whole.end
read_input limit old new input other told (ReadFront long left lost) = left_input old input other told left
