-- One event of a board is one whole instruction; and an own turn of at most one instruction is one event, or nothing.
use Rattle.std.proofs.Common.{◌≡◌, ◌∙◌, ℕ, zero, suc, ◌+◌, ◌<◌, ◌≤◌, ◌||◌, Bool, ap, sym, refl, subst, List, [], ◌∷◌, ◌++◌, None, arith, append-nil, eq-eqb}
use Rattle.std.specs.Prelude.{IsSome}
use Rattle.std.proofs.Math.ListN.{set}
use Rattle.std.proofs.lemmas.List.{append_cancel_left, map-set}
use Rattle.spur_cache.specs.Lines.{found, word_in}
use Rattle.spur_flat.specs.declared.entry.Entry.{Entry}
use Rattle.spur_flat.specs.declared.entry.Entry.TheVariants as entry
use Rattle.spur_cpu.specs.Meaning.{Meaning}
use Rattle.spur_cpu.specs.Onward.{carry_instruction, is_ending_fault}
use Rattle.spur_commute.specs.Logs.{IsLogOf}
use Rattle.spur_walk.specs.Laws.{done_entry}
use Rattle.spur_board.specs.declared.board.Board.{Board}
use Rattle.spur_board.specs.declared.ending.Ending.{Ending}
use Rattle.spur_board.specs.declared.turn.BusReason.{BusReason}
use Rattle.spur_board.specs.declared.turn.BusReason.TheVariants as reason
use Rattle.spur_board.specs.declared.turn.Turn.{Turn}
use Rattle.spur_board.specs.declared.turn.Turn.TheVariants as turn
use Rattle.spur_board.specs.Boards.{course_now}
use Rattle.spur_board.specs.Own.{ByFault, ByHit, ByItself, HasTurned, IsCause, LedByEvents, Needs, OwnEvent}
use Rattle.spur_board.specs.OwnLaws.{IsInstruction, IsKept}
use Rattle.spur_board.proofs.CarryFacts.{event-is-an-instruction, own_fault_ends}
use Rattle.spur_board.proofs.EventFacts.{event_going, event_kept, event_retired}
use Rattle.spur_core.specs.Boards.{is_swapped, whole}
use Rattle.spur_core.specs.Own.{EventIsStepped, EventLogsOneAnswer, LogsAnswer, LogsNothing, LogsOneAnswer, WantsBus}
use Rattle.spur_core.specs.Step.{Carried, EndsWithAnswer, HasNone, OwnIsLast, runner_of}
use Rattle.spur_core.proofs.GoodFacts.{empty_joined}
use Rattle.spur_core.proofs.OwnEventFacts.{done_logged, event_unswapped}
use Rattle.spur_core.proofs.OwnLogFacts.{joined_one, local_own, own_all, own_boards}
use Rattle.spur_core.proofs.RoundFacts.{done_is_done}

-- so the entries of its step end with its answer
ends_by_one : (b : ℕ) (entries : List Entry) → LogsOneAnswer b entries → EndsWithAnswer b entries
ends_by_one b entries (LogsNothing none) = HasNone none
ends_by_one b entries (LogsAnswer e is own answer) = OwnIsLast [] e is own

module _ {C S : Type 0} (m : Meaning S) (state : C → S) (spare : C → ℕ) where
  pub event-logs-one-answer : EventLogsOneAnswer m state spare
  event-logs-one-answer old new logged (ByItself r) log =
      let same : new.log.entries ≡ old.log.entries ++ [] = ap (λ (b : Board C). b.log.entries) r.ran.stays.is ∙ sym (append-nil old.log.entries) in
      LogsNothing (append_cancel_left old.log.entries logged [] (sym log ∙ same))
  event-logs-one-answer old new logged (ByHit h) log =
      let word : ℕ = word_in (found old.cache h.at) h.at in
      let e : Entry = done_entry h.kind old.number h.at word h.value in
      let local = done_logged h.kind old.number h.at word h.value in
      LogsAnswer e (append_cancel_left old.log.entries logged (e ∷ []) (sym log ∙ h.does.logged.entries)) (local_own old.number e local.local local.board)
      (ap (λ (t : Bool). t || is_ending_fault e) (done_is_done h.kind old.number h.at word h.value))
  event-logs-one-answer old new logged (ByFault f) log =
      let e : Entry = entry.Fault old.number f.why f.kind f.at in
      LogsAnswer e (append_cancel_left old.log.entries logged (e ∷ []) (sym log ∙ f.falls.logged.entries)) (eq-eqb old.number old.number refl)
      (own_fault_ends old.cache f.kind f.at f.why f.cause)

  pub event_stepped : {B : Type 0} → EventIsStepped m state spare B
  event_stepped store boards b x y empty there number event =
      let is : IsInstruction m state spare x y = event-is-an-instruction m state spare x y event in
      let kept : IsKept m state spare x y = event_kept m state spare x y event in
      let logged : List Entry = is.logged in
      let h : List Entry = store.history.entries in
      let own : IsLogOf b logged = subst (λ (i : ℕ). IsLogOf i logged) number is.own in
      let on : is_swapped y.ended ≡ is_swapped x.ended = event_unswapped m state spare x y event ∙ sym (ap is_swapped (event_going m state spare x y event)) in
      let before : whole store boards ≡ h = ap (λ (es : List Entry). h ++ es) (empty_joined boards empty) ∙ append-nil h in
      let after : whole store (set boards b y) ≡ h ++ logged = ap (λ (es : List Entry). h ++ es) (joined_one boards b x y empty there ∙ is.log ∙ ap (λ (es : List Entry). es ++ logged) (empty.each b x there)) in
      record {
        entries = logged;
        history = after ∙ ap (λ (es : List Entry). es ++ logged) (sym before);
        turns = own_boards b logged own;
        old = x;
        there = there;
        new = y;
        takes = Carried (ap (carry_instruction m x.segs x.budget (course_now m state x)) (own_all b logged own) ∙ is.carried)
            (λ k. record { segs = kept.segs k; budget = kept.budget k; course = course_now m state y; swapped = on k });
        reaches = λ unswapped. ends_by_one b logged (subst (λ (i : ℕ). LogsOneAnswer i logged) number (event-logs-one-answer x y logged event is.log));
        boards = map-set (runner_of m state) boards b y;
      }

  -- an own turn of one instruction of a board that has not ended, where it does not need the bus, is one event
  one_event : (n : ℕ) (old new : Board C) (result : Turn) → n ≤ 1 → LedByEvents m state spare n old new → IsCause m state spare 1 old new result → (WantsBus result → ⊥) → old.ended ≡ None → OwnEvent m state spare old new
  one_event zero old new turn.Again few is cause alone none =
      let same : new.retired ≡ old.retired = ap (λ (b : Board C). b.retired) is in
      let more : new.retired ≡ old.retired + 1 = cause.1 in
      absurd (omega arith)
  one_event zero old new (turn.NeedsBus why) few is cause alone none = absurd (alone tt)
  one_event zero old new turn.Ended few is cause alone none =
      let some : IsSome {T = Ending} None = subst (IsSome {T = Ending}) (ap (λ (b : Board C). b.ended) is ∙ none) cause in
      cc
  one_event (suc zero) old new result few r cause alone none = subst (λ (b : Board C). OwnEvent m state spare b new) r.1.before r.1.event
  one_event (suc (suc n)) old new result few r cause alone none = absurd (omega arith)

  pub turned_event : (old new : Board C) (result : Turn) → HasTurned m state spare 1 old result new → (WantsBus result → ⊥) → old.ended ≡ None → OwnEvent m state spare old new
  turned_event old new result turned alone none = one_event turned.step.count old new result turned.few turned.step.follows turned.cause alone none

  -- and where it needs the bus, nothing has happened
  needs_going : (b : Board C) (why : BusReason) → Needs m state spare why b → b.ended ≡ None
  needs_going b reason.FullLog needs = needs.going.not_ended
  needs_going b reason.Access needs = needs.asks.going.not_ended

  no_event : (n at_most : ℕ) (old new : Board C) (result : Turn) → n ≤ at_most → at_most ≤ 1 → LedByEvents m state spare n old new → IsCause m state spare at_most old new result → WantsBus result → new ≡ old
  no_event n at_most old new turn.Again few one led cause wants = absurd wants
  no_event n at_most old new turn.Ended few one led cause wants = absurd wants
  no_event zero at_most old new (turn.NeedsBus why) few one led cause wants = led
  no_event (suc zero) at_most old new (turn.NeedsBus why) few one r cause wants =
      let more : new.retired ≡ r.0.retired + 1 = event_retired m state spare r.0 new r.1.event (needs_going new why cause.0) in
      let same : r.0.retired ≡ old.retired = ap (λ (b : Board C). b.retired) r.1.before in
      let less : new.retired < old.retired + at_most = cause.1 in
      absurd (omega arith)
  no_event (suc (suc n)) at_most old new (turn.NeedsBus why) few one r cause wants = absurd (omega arith)

  pub turned_still : (at_most : ℕ) (old new : Board C) (result : Turn) → HasTurned m state spare at_most old result new → at_most ≤ 1 → WantsBus result → new ≡ old
  turned_still at_most old new result turned one wants = no_event turned.step.count at_most old new result turned.few one turned.step.follows turned.cause wants
