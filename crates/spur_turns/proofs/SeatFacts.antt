-- What holds of a seat between two calls, and what its callers see of it.
use Rattle.std.proofs.Common.{◌≡◌, ℕ, ◌+◌, ◌<◌, List, [], ◌∷◌, length, sym, refl, ap, ◌∙◌, subst, inr, arith, Option, Some, None}
use Rattle.std.specs.declared.alloc.Global.{Global}
use Rattle.std.specs.declared.vec.Vec.{Vec}
use Rattle.atomic_table.specs.Seated.{TableId}
use Rattle.spur_turns.specs.declared.table.View.{View}
use Rattle.spur_turns.specs.declared.table.Stowed.{Stowed}
use Rattle.spur_turns.specs.declared.shown.Holding.TheVariants.{Nothing, Everything}
use Rattle.spur_turns.specs.Views.{Slot}
use Rattle.spur_turns.specs.Kinds.{Seated}
use Rattle.spur_turns.specs.Shown.{SeatView, holding_of, seat_view}
use Rattle.spur_turns.specs.Hands.{HasTaken, IsFree, emptied}
use Rattle.spur_turns.specs.Seats.{IsSeatKept}
use Rattle.spur_turns.proofs.ListFacts.{none_some}
use Rattle.spur_turns.proofs.StockFacts.{stock_long}

module _ {T P : Type 0} where
  holds_nothing : (own : Option P) (stock : List (Slot T P)) → holding_of own stock ≡ Nothing → (own ≡ None) × (stock ≡ [])
  holds_nothing (Some p) stock e = absurd (cc)
  holds_nothing None [] e = (refl, refl)
  holds_nothing None (y ∷ ys) e = absurd (cc)

  all_held : (own : Option P) (stock : List (Slot T P)) → own ≡ None → 0 < length stock → holding_of own stock ≡ Everything
  all_held (Some p) stock e h = absurd (none_some (sym e))
  all_held None [] e h = absurd (omega arith)
  all_held None (y ∷ ys) e h = refl

module _ {T P N : Type 0} (number : ℕ) (table : TableId) (me : Seated T P N) (kept : IsSeatKept number table me.0 me.1) (s : SeatView P N) (shown : seat_view table me.0 ≡ s) where
  -- a seat of which its callers see that it holds nothing
  pub kept_free : s.holds ≡ Nothing → IsFree me
  kept_free idle =
      let t = holds_nothing me.0.own me.0.stock (ap (λ (z : SeatView P N). z.holds) shown ∙ idle) in
      record { live = kept.live; stock = t.1; own = t.0; hand = kept.held t.0 ∙ ap (λ (l : List (Slot T P)). emptied (length l)) t.1 }

-- it took everything
pub kept_took_all : {B P N : Type 0} (good : B → List P → Type 0) (name : B → N) (number slots i : ℕ) (table table' : TableId) (bus : B) (places : Vec P Global) (me me' : Seated (Stowed B P) P N)
    → IsSeatKept number table me.0 me.1 → table' ≡ table → IsFree me → i + 1 ≡ table.slots → HasTaken good name slots i bus places me me' → IsSeatKept number table' me'.0 me'.1
kept_took_all {B} {P} {N} good name number slots i table table' bus places me me' kept same free all got =
    let view = got.view in
    let unowned : me'.0.own ≡ None = ap (λ (v : View (Stowed B P) P N). v.own) view ∙ free.own in
    let tall : length me'.0.stock ≡ i + 1 = ap (λ (v : View (Stowed B P) P N). length v.stock) view ∙ (stock_long (record { bus = bus; room = got.room }) places.items ∙ ap (λ (n : ℕ). n + 1) got.many) in
    subst (λ (t : TableId). IsSeatKept number t me'.0 me'.1) (sym same) record {
      same = ap (λ (v : View (Stowed B P) P N). v.number) view ∙ kept.same;
      low = kept.low;
      few = kept.few;
      words_are = kept.words_are;
      live = ap (λ (v : View (Stowed B P) P N). v.live) view ∙ kept.live;
      seats_are = λ z. ap (λ (v : View (Stowed B P) P N). v.seats + 1) view ∙ kept.seats_are z;
      joined_none = ap (λ (v : View (Stowed B P) P N). v.joined) view ∙ kept.joined_none;
      all_or_none = inr (tall ∙ all);
      held = λ _. got.hand ∙ ap emptied (sym tall);
      own_held = λ p own. absurd (none_some (sym unowned ∙ own));
      named = (kept.named.0, ap (λ (v : View (Stowed B P) P N). v.name) view ∙ kept.named.1);
    }

-- what its callers see then
pub shown_took_all : {B P N : Type 0} (good : B → List P → Type 0) (name : B → N) (slots i : ℕ) (table table' : TableId) (bus : B) (places : Vec P Global) (me me' : Seated (Stowed B P) P N) (s : SeatView P N)
    → seat_view table me.0 ≡ s → table' ≡ table → IsFree me → HasTaken good name slots i bus places me me' → seat_view table' me'.0 ≡ record s { holds = Everything }
shown_took_all {B} {P} {N} good name slots i table table' bus places me me' s shown same free got =
    let view = got.view in
    let unowned : me'.0.own ≡ None = ap (λ (v : View (Stowed B P) P N). v.own) view ∙ free.own in
    let tall : length me'.0.stock ≡ length places.items + 1 = ap (λ (v : View (Stowed B P) P N). length v.stock) view ∙ stock_long (record { bus = bus; room = got.room }) places.items in
    let whole : holding_of me'.0.own me'.0.stock ≡ Everything = all_held me'.0.own me'.0.stock unowned (omega (arith, tall)) in
    (λ j. record { table = same j; number = (view j).number; name = (view j).name; holds = whole j; met = (view j).met }) ∙ ap (λ (z : SeatView P N). record z { holds = Everything }) shown
