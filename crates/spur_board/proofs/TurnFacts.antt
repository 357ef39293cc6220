-- A turn on its way, and the cause for which it is over.
use Rattle.std.proofs.Common.{◌≡◌, ℕ, suc, ◌+◌, ◌<◌, ◌≤◌, ap, sym, refl, subst, Option, Some, None, arith}
use Rattle.std.specs.Prelude.{IsSome}
use Rattle.spur_cpu.specs.Meaning.{Meaning}
use Rattle.spur_board.specs.declared.board.Board.{Board}
use Rattle.spur_board.specs.declared.ending.Ending.{Ending}
use Rattle.spur_board.specs.Boards.{IsSound}
use Rattle.spur_board.specs.declared.turn.BusReason.{BusReason}
use Rattle.spur_board.specs.declared.turn.BusReason.TheVariants as reason
use Rattle.spur_board.specs.declared.turn.Turn.{Turn}
use Rattle.spur_board.specs.declared.turn.Turn.TheVariants as turn
use Rattle.spur_board.specs.Own.{HasEvent, HasTurned, IsAway, IsCause, IsFull, LedByEvents, Needs, OwnEvent}
use Rattle.spur_board.specs.OwnLaws.{CauseIsOne}
use Rattle.spur_board.proofs.EventFacts.{event_sound}
use Rattle.spur_board.proofs.StepFacts.{events-count}

module _ {C S : Type 0} (m : Meaning S) (state : C → S) (spare : C → ℕ) where
  -- a turn on its way, after so many events
  pub record IsTurning (done : ℕ) (old now : Board C) : Type 0 where
    pub follows : LedByEvents m state spare done old now
    pub sound : IsSound m state spare now

  pub turning_next : (k : ℕ) (old now new : Board C) → IsTurning k old now → OwnEvent m state spare now new → IsTurning (k + 1) old new
  turning_next k old now new turning event =
      let more : suc k ≡ k + 1 = omega arith in
      record {
        follows = subst (λ (j : ℕ). LedByEvents m state spare j old new) more (now, record { before = turning.follows; event = event });
        sound = event_sound m state spare now new turning.sound event;
      }

  pub stepped_event : (o : Option BusReason) (old new : Board C) → ((r : BusReason) → o ≡ Some r → ⊥) → HasEvent m state spare old o new → OwnEvent m state spare old new
  stepped_event None old new n h = h
  stepped_event (Some r) old new n h = absurd (n r refl)

  pub stepped_needs : (o : Option BusReason) (r : BusReason) (old new : Board C) → o ≡ Some r → HasEvent m state spare old o new → (new ≡ old) × Needs m state spare r old
  stepped_needs o r old new is h = subst (λ (q : Option BusReason). HasEvent m state spare old q new) is h

  pub turned_by : (k at_most : ℕ) (old now : Board C) (r : Turn) → IsSound m state spare old → IsTurning k old now → k ≤ at_most → IsCause m state spare at_most old now r → HasTurned m state spare at_most old r now
  turned_by k at_most old now r sound turning few cause =
      record { step = record { number = refl; sound = sound; count = k; follows = turning.follows }; few = few; cause = cause }

  needs_going : (r : BusReason) (b : Board C) → Needs m state spare r b → b.ended ≡ None
  needs_going reason.FullLog b n = n.going.not_ended
  needs_going reason.Access b n = n.asks.going.not_ended

  pub turned_needs : (k at_most : ℕ) (old now new : Board C) (r : BusReason) → IsSound m state spare old → IsTurning k old now → k < at_most → (new ≡ now) × Needs m state spare r now → HasTurned m state spare at_most old (turn.NeedsBus r) new
  turned_needs k at_most old now new r sound turning few needs =
      let retired : now.retired ≡ old.retired + k = (events-count m state spare k old now turning.follows).going (needs_going r now needs.1) in
      subst (HasTurned m state spare at_most old (turn.NeedsBus r)) (sym needs.0) (turned_by k at_most old now (turn.NeedsBus r) sound turning (omega arith) (needs.1, omega arith))

  pub turned_over : (k at_most : ℕ) (old now : Board C) → IsSound m state spare old → IsTurning k old now → k ≤ at_most → at_most ≤ k → now.ended ≡ None → HasTurned m state spare at_most old turn.Again now
  turned_over k at_most old now sound turning few many none =
      let retired : now.retired ≡ old.retired + k = (events-count m state spare k old now turning.follows).going none in
      turned_by k at_most old now turn.Again sound turning few (none, omega arith)

  some_ends : (o : Option Ending) → o ≡ None → IsSome o → ⊥
  some_ends None is h = absurd cc
  some_ends (Some e) is h = absurd cc

  full_away : (b : Board C) → IsFull m state spare b → IsAway m state spare b → ⊥
  full_away b full away = let is = full.full in let left = away.left in absurd (omega arith)

  needs_one : (b : Board C) (r q : BusReason) → Needs m state spare r b → Needs m state spare q b → r ≡ q
  needs_one b reason.FullLog reason.FullLog x y = refl
  needs_one b reason.Access reason.Access x y = refl
  needs_one b reason.FullLog reason.Access x y = absurd (full_away b x y)
  needs_one b reason.Access reason.FullLog x y = absurd (full_away b y x)

  pub cause-is-one : CauseIsOne m state spare
  cause-is-one at_most old new turn.Again turn.Again x y = refl
  cause-is-one at_most old new turn.Again (turn.NeedsBus q) x y = let is : new.retired ≡ old.retired + at_most = x.1 in let less : new.retired < old.retired + at_most = y.1 in absurd (omega arith)
  cause-is-one at_most old new turn.Again turn.Ended x y = absurd (some_ends new.ended x.0 y)
  cause-is-one at_most old new (turn.NeedsBus r) turn.Again x y = let is : new.retired ≡ old.retired + at_most = y.1 in let less : new.retired < old.retired + at_most = x.1 in absurd (omega arith)
  cause-is-one at_most old new (turn.NeedsBus r) (turn.NeedsBus q) x y = ap turn.NeedsBus (needs_one new r q x.0 y.0)
  cause-is-one at_most old new (turn.NeedsBus r) turn.Ended x y = absurd (some_ends new.ended (needs_going r new x.0) y)
  cause-is-one at_most old new turn.Ended turn.Again x y = absurd (some_ends new.ended y.0 x)
  cause-is-one at_most old new turn.Ended (turn.NeedsBus q) x y = absurd (some_ends new.ended (needs_going q new y.0) x)
  cause-is-one at_most old new turn.Ended turn.Ended x y = refl
