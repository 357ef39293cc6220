-- A turn: what a board does alone, and on the bus behind it.
use Rattle.std.proofs.Common.{◌≡◌, ◌∙◌, ℕ, zero, suc, ◌+◌, ◌≤◌, ap, sym, subst, List, length, map, Option, Some, None, arith}
use Rattle.std.specs.Prelude.{Err, IsSome, Ok, OnErr, OnOk, Result, slice_get}
use Rattle.std.proofs.lemmas.List.{length-set}
use Rattle.spur_cpu.specs.Meaning.{Meaning, WantsAccess}
use Rattle.spur_bus.proofs.LineFacts.{slice_get-set_other, slice_get-set_same}
use Rattle.spur_board.specs.declared.board.Board.{Board}
use Rattle.spur_board.specs.declared.ending.Ending.{Ending}
use Rattle.spur_board.specs.declared.turn.BusReason.{BusReason}
use Rattle.spur_board.specs.declared.turn.BusReason.TheVariants as reason
use Rattle.spur_board.specs.declared.turn.Turn.{Turn}
use Rattle.spur_board.specs.declared.turn.Turn.TheVariants as turn
use Rattle.spur_board.specs.Own.{ByFault, ByHit, ByItself, LedByEvents, Needs, OwnEvent}
use Rattle.spur_core.specs.Boards.{emptied}
use Rattle.spur_core.specs.Own.{HasTurnedAt}
use Rattle.spur_core.specs.Takes.{OnlyItsLines}
use Rattle.spur_core.specs.Turn.{GoesOnOrEnds, IsWanting, OthersStay}
use Rattle.spur_core.proofs.AskFacts.{same_at}
use Rattle.spur_core.proofs.SameFacts.{got_map}
use Rattle.spur_threads.specs.Turns.{ComesTo, HasGoneAlone, IsAsIn, MovesOn, OthersRest, WantsOn}

-- ---- facts of a result

pub on_ok_then : {A E P Q : Type 0} (r : Result A E) → (P → Q) → OnOk r P → OnOk r Q
on_ok_then (Ok x) f p = f p
on_ok_then (Err e) f p = p

pub on_either : {A E P Q R : Type 0} (r : Result A E) → (P → R) → (Q → R) → OnOk r P → OnErr r Q → R
on_either (Ok x) f g p q = f p
on_either (Err e) f g p q = g q

-- a board that has no ending has not ended
not_out : (o : Option Ending) → o ≡ None → IsSome o → ⊥
not_out None is out = absurd cc
not_out (Some e) is out = absurd cc

-- ---- the other boards

module _ {C : Type 0} where
  pub as_in_same : (x y : Board C) → x ≡ y → IsAsIn x y
  as_in_same x y e = record {
    cpu = ap (λ (z : Board C). z.cpu) (sym e);
    retired = ap (λ (z : Board C). z.retired) (sym e);
    ended = ap (λ (z : Board C). z.ended) (sym e);
  }

  pub as_in_then : (x y z : Board C) → IsAsIn x y → IsAsIn y z → IsAsIn x z
  as_in_then x y z a b = record { cpu = b.cpu ∙ a.cpu; retired = b.retired ∙ a.retired; ended = b.ended ∙ a.ended }

  pub others_same : (b : ℕ) (boards : List (Board C)) → OthersRest b boards boards
  others_same b boards = record { each = λ i x y apart at here. as_in_same x y (same_at boards i x y at here) }

  -- a turn on the bus
  pub bus_others : (b : ℕ) (olds mids news : List (Board C)) → OthersRest b olds mids → OthersStay b mids news → OthersRest b olds news
  bus_others b olds mids news before stay = record {
    each = λ i x y apart at here.
        let only : OnlyItsLines (map emptied mids) i y = stay.each i y apart here in
        let r = got_map emptied mids i only.old only.there in
        let first : IsAsIn x r.old = before.each i x r.old apart at r.there in
        record {
          cpu = ap (λ (z : Board C). z.cpu) only.is ∙ ap (λ (z : Board C). z.cpu) (sym r.is) ∙ first.cpu;
          retired = ap (λ (z : Board C). z.retired) only.is ∙ ap (λ (z : Board C). z.retired) (sym r.is) ∙ first.retired;
          ended = ap (λ (z : Board C). z.ended) only.is ∙ ap (λ (z : Board C). z.ended) (sym r.is) ∙ first.ended;
        };
  }

module _ {C S : Type 0} (m : Meaning S) (state : C → S) (spare : C → ℕ) where
  -- ---- what a board does alone

  event_later : (old new : Board C) → OwnEvent m state spare old new → old.retired ≤ new.retired
  event_later old new (ByItself r) = let e : new.retired ≡ old.retired + 1 = r.ran.retired in omega arith
  event_later old new (ByHit h) = let e : new.retired ≡ old.retired + 1 = h.does.done.retired in omega arith
  event_later old new (ByFault f) = let e : new.retired ≡ old.retired = f.falls.faulted.retired in omega arith

  led_later : (n : ℕ) (old new : Board C) → LedByEvents m state spare n old new → old.retired ≤ new.retired
  led_later zero old new is = let e : new.retired ≡ old.retired = ap (λ (b : Board C). b.retired) is in omega arith
  led_later (suc n) old new led =
      let before : old.retired ≤ led.0.retired = led_later n old led.0 led.1.before in
      let last : led.0.retired ≤ new.retired = event_later led.0 new led.1.event in
      omega arith

  wanting_by : (why : BusReason) (y : Board C) → Needs m state spare why y → IsWanting m state y
  wanting_by reason.FullLog y full = record { going = full.going.not_ended; wants = full.wants }
  wanting_by reason.Access y away = record { going = away.asks.going.not_ended; wants = subst WantsAccess (sym away.asks.wants) tt }

  -- the board after it
  there_now : (b most : ℕ) (result : Turn) (olds news : List (Board C)) (t : HasTurnedAt m state spare b most olds result news) → slice_get news b ≡ Some t.new
  there_now b most result olds news t = ap (λ (bs : List (Board C)). slice_get bs b) t.is ∙ slice_get-set_same olds b t.old t.new t.there

  -- there are as many boards
  pub own_count : (b most : ℕ) (result : Turn) (olds news : List (Board C)) → HasTurnedAt m state spare b most olds result news → length news ≡ length olds
  own_count b most result olds news t = ap (λ (bs : List (Board C)). length bs) t.is ∙ length-set olds b t.new

  own_others : (b most : ℕ) (result : Turn) (olds news : List (Board C)) → HasTurnedAt m state spare b most olds result news → OthersRest b olds news
  own_others b most result olds news t = record {
    each = λ i x y apart at here.
        let there : slice_get olds i ≡ Some y = sym (slice_get-set_other olds b i t.new apart) ∙ ap (λ (bs : List (Board C)). slice_get bs i) (sym t.is) ∙ here in
        as_in_same x y (same_at olds i x y at there);
  }

  comes_to : (b most : ℕ) (result : Turn) (olds news : List (Board C)) → 1 ≤ most → HasTurnedAt m state spare b most olds result news → ComesTo m state b olds result news
  comes_to b most turn.Again olds news some t = record {
    moved = λ x y at here going left.
        let is : t.new ≡ y = same_at news b t.new y (there_now b most turn.Again olds news t) here in
        let now : t.new.retired ≡ y.retired = ap (λ (z : Board C). z.retired) is in
        let was : t.old.retired ≡ x.retired = ap (λ (z : Board C). z.retired) (same_at olds b t.old x t.there at) in
        let more : t.new.retired ≡ t.old.retired + most = t.turned.cause.1 in
        omega arith;
  }
  comes_to b most turn.Ended olds news some t = record {
    moved = λ x y at here going left.
        let is : t.new ≡ y = same_at news b t.new y (there_now b most turn.Ended olds news t) here in
        let none : t.new.ended ≡ None = ap (λ (z : Board C). z.ended) is ∙ left in
        absurd (not_out t.new.ended none t.turned.cause);
  }
  comes_to b most (turn.NeedsBus why) olds news some t = record {
    board = t.new;
    there = there_now b most (turn.NeedsBus why) olds news t;
    wanting = wanting_by why t.new t.turned.cause.0;
    kept = λ x at.
        let was : t.old.retired ≡ x.retired = ap (λ (z : Board C). z.retired) (same_at olds b t.old x t.there at) in
        let later : t.old.retired ≤ t.new.retired = led_later t.turned.step.count t.old t.new t.turned.step.follows in
        let r : x.retired ≤ t.new.retired = omega arith in
        r;
  }

  pub gone_alone : (b most : ℕ) (result : Turn) (olds news : List (Board C)) → 1 ≤ most → HasTurnedAt m state spare b most olds result news → HasGoneAlone m state b olds result news
  gone_alone b most result olds news some t = record {
    others = own_others b most result olds news t;
    comes = comes_to b most result olds news some t;
  }

  -- ---- and on the bus behind it

  pub bus_moves : (b : ℕ) (olds mids news : List (Board C)) → WantsOn m state b olds mids → GoesOnOrEnds m state b mids news → MovesOn b olds news
  bus_moves b olds mids news wants turned = record {
    moved = λ x y at here going left.
        let kept : x.retired ≤ wants.board.retired = wants.kept x at in
        let one : y.retired ≡ wants.board.retired + 1 = turned.moved wants.board y wants.there here wants.wanting left in
        omega arith;
  }
