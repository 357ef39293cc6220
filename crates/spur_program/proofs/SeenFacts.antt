-- What probes saw of a run.
use Rattle.std.proofs.Common.{◌≡◌, ℕ, Bool, Option, Some, None, Result, Ok, Err, IfOk, List, [], ap, refl, sym, ◌∙◌, subst, map}
use Rattle.std.specs.Prelude.{IfNone, IsSome}
use Rattle.std.specs.List.{All}
use Rattle.spur_flat.specs.declared.entry.Entry.{Entry}
use Rattle.spur_cpu.specs.Meaning.{Meaning}
use Rattle.spur_board.specs.declared.board.Board.{Board}
use Rattle.spur_core.specs.Step.{runners_of}
use Rattle.spur_probe.specs.declared.probe.ProbeLine.{ProbeLine}
use Rattle.spur_probe.specs.Shown.{Told, told_line}
use Rattle.spur_sched.specs.declared.run.Ran.{Ran}
use Rattle.spur_sched.specs.declared.run.Ran.TheVariants.{Done, Stopped}
use Rattle.spur_sched.specs.Followed.{IsScheduled}
use Rattle.spur_sched.specs.Shown.{IsShown, added, stopped_entry}
use Rattle.spur_words.specs.declared.task.Order.{Order}
use Rattle.spur_words.specs.declared.task.Schedule.{Schedule}
use Rattle.spur_words.specs.declared.task.Order.TheVariants.{Scheduled}
use Rattle.spur_program.specs.declared.probes.Seen.{Seen}
use Rattle.spur_program.specs.Headline.{AllAreOut}
use Rattle.spur_program.specs.Probes.{AreShown, stop_number, stop_told}
use Rattle.spur_program.proofs.EndFacts.{all_are_out, ended_are_out}

same_stop : (ran : Ran) → stopped_entry ran ≡ stop_number (stop_told ran)
same_stop Done = refl
same_stop (Stopped entry probe) = refl

module _ {C S : Type 0} (m : Meaning S) (state : C → S) (number : ℕ) (late : Bool) (most : ℕ) (before after : List Entry) (olds news : List (Board C)) where
  abbrev Followed : Option ℕ → Type 0
  Followed stop = IsScheduled m state number late most stop before after olds news

  out_by : (ran : Ran) → Followed (stopped_entry ran) → IfNone (stop_told ran) (AllAreOut (runners_of m state news))
  out_by Done is = all_are_out (runners_of m state news) is.followed.ended
  out_by (Stopped entry probe) is = tt

  -- a schedule that no probe stopped came to its end with all boards
  pub out_unless_stopped : (ran : Ran) (stopped : Option (ℕ × ℕ)) → stopped ≡ stop_told ran → Followed (stopped_entry ran) → IfNone stopped (AllAreOut (runners_of m state news))
  out_unless_stopped ran stopped is scheduled = subst (λ (s : Option (ℕ × ℕ)). IfNone s (AllAreOut (runners_of m state news))) (sym is) (out_by ran scheduled)

  -- and it is followed up to the entry of the stop that is told
  pub goes_to_stop : (ran : Ran) (stopped : Option (ℕ × ℕ)) → stopped ≡ stop_told ran → Followed (stopped_entry ran) → Followed (stop_number stopped)
  goes_to_stop ran stopped is scheduled = subst Followed (same_stop ran ∙ ap stop_number (sym is)) scheduled

-- what the schedule showed
pub shown_by_schedule : {A : Type 0} (tell : A → Told) (schedule : Schedule) (entries : List Entry) (olds news slice : List A) (ran : Ran) (stopped : Option (ℕ × ℕ)) (lines : List ProbeLine)
    → stopped ≡ stop_told ran → lines ≡ map told_line (map tell slice) → slice ≡ news → IsShown tell entries olds news ran → AreShown (Scheduled schedule) (map tell olds) entries stopped lines
shown_by_schedule {A} tell schedule entries olds news slice ran stopped lines is told same shown =
    record { stop = is ∙ ap stop_told shown.answer; told = told ∙ ap (λ (xs : List A). map told_line (map tell xs)) same ∙ ap (map told_line) shown.moved }

-- what was added to no entries
added_to_none : (before after : List Entry) → before ≡ [] → added before after ≡ after
added_to_none before after none = ap (λ (es : List Entry). added es after) none

pub shown_from_none : (order : Order) (probes : List Told) (before after : List Entry) (stopped : Option (ℕ × ℕ)) (lines : List ProbeLine) → before ≡ []
    → AreShown order probes (added before after) stopped lines → AreShown order probes after stopped lines
shown_from_none order probes before after stopped lines none shown = subst (λ (es : List Entry). AreShown order probes es stopped lines) (added_to_none before after none) shown

-- where all boards have ended, whatever is told of a stop
pub out_anyhow : {C S : Type 0} (m : Meaning S) (state : C → S) (boards : List (Board C)) (stopped : Option (ℕ × ℕ)) → All (λ board. IsSome board.ended) boards
    → IfNone stopped (AllAreOut (runners_of m state boards))
out_anyhow m state boards None all = ended_are_out m state boards all
out_anyhow m state boards (Some stop) all = tt

pub out_anyhow_if-Ok : {C S E : Type 0} (m : Meaning S) (state : C → S) (boards : List (Board C)) (result : Result Seen E) → All (λ board. IsSome board.ended) boards
    → IfOk result (λ seen. IfNone seen.stopped (AllAreOut (runners_of m state boards)))
out_anyhow_if-Ok m state boards (Ok seen) all = out_anyhow m state boards seen.stopped all
out_anyhow_if-Ok m state boards (Err fault) all = tt

-- what was shown of all that was added to no entries was shown of the whole history
pub shown_whole_if-Ok : {E : Type 0} (order : Order) (probes : List Told) (before after : List Entry) (result : Result Seen E) → before ≡ []
    → IfOk result (λ seen. AreShown order probes (added before after) seen.stopped seen.lines.items) → IfOk result (λ seen. AreShown order probes after seen.stopped seen.lines.items)
shown_whole_if-Ok order probes before after (Ok seen) none shown = shown_from_none order probes before after seen.stopped seen.lines.items none shown
shown_whole_if-Ok order probes before after (Err fault) none shown = tt

pub shown_as_if-Ok : {E : Type 0} (order other : Order) (probes : List Told) (history : List Entry) (result : Result Seen E) → order ≡ other
    → IfOk result (λ seen. AreShown other probes history seen.stopped seen.lines.items) → IfOk result (λ seen. AreShown order probes history seen.stopped seen.lines.items)
shown_as_if-Ok order other probes history result same shown = subst (λ (o : Order). IfOk result (λ seen. AreShown o probes history seen.stopped seen.lines.items)) (sym same) shown

-- the same history and what was seen of it, by other names
pub shown_kept : (order : Order) (probes : List Told) (history other : List Entry) (seen also : Seen) → other ≡ history → also ≡ seen
    → AreShown order probes history seen.stopped seen.lines.items → AreShown order probes other also.stopped also.lines.items
shown_kept order probes history other seen also same is shown =
    subst (λ (z : List Entry × Seen). AreShown order probes z.0 z.1.stopped z.1.lines.items) (λ k. (sym same k, sym is k)) shown
