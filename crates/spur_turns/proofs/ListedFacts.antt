-- Seats in lists: as they are split off, one after another, and as they are joined.
use Rattle.std.proofs.Common.{◌≡◌, ◌⊎◌, ℕ, zero, suc, ◌+◌, ◌-◌, ◌<◌, Bool, false, List, [], ◌∷◌, ◌++◌, length, get_or, set, map, sym, refl, ap, ◌∙◌, subst, ⊎_elim, inl, inr, arith, Option, Some, take, drop, get_or-set_other, slice_index_or}
use Rattle.std.specs.Prelude.{slice_get}
use Rattle.std.specs.List.{AllByRecursion}
use mathlib.Core.Logic.{dite}
use mathlib.Core.Option.{some, some-injective}
use native.Mathlib.Decide.{ℕ_discrete}
use lib.ListN.{get_elem?}
use Rattle.atomic_table.specs.Table.{Final, Seen}
use Rattle.atomic_table.specs.Seated.{TableId}
use Rattle.spur_turns.specs.declared.table.View.{View}
use Rattle.spur_turns.specs.declared.table.Item.TheVariants.{Bus, Place}
use Rattle.spur_turns.specs.Views.{Slot, joined_view, new_view}
use Rattle.spur_turns.specs.Kinds.{Seated}
use Rattle.spur_turns.specs.Shown.{SeatView, TurnsView, names_of, seat_view, turns_view}
use Rattle.spur_turns.specs.Seats.{AreAllIdle, AreLast, AreNamed, AreOthers, AreSplit, IsFront, IsIdle, IsSeatKept, later_view}
use Rattle.spur_turns.specs.Rule.{IsKept}
use Rattle.spur_turns.proofs.EndFacts.{closes}
use Rattle.spur_turns.proofs.SeatFacts.{kept_free}
use Rattle.spur_turns.proofs.ListFacts.{got_there, inner_some, none_some, same_list}

module _ {A : Type 0} where
  pub got_snoc : (l : List A) (a b : A) (j : ℕ) → slice_get (l ++ a ∷ []) j ≡ Some b → (slice_get l j ≡ Some b) ⊎ ((j ≡ length l) × (a ≡ b))
  got_snoc [] a b zero e = inr (refl, inner_some e)
  got_snoc [] a b (suc j) e = absurd (none_some e)
  got_snoc (x ∷ xs) a b zero e = inl e
  got_snoc (x ∷ xs) a b (suc j) e = ⊎_elim (λ t. inl t) (λ t. inr (let q = t.0 in omega arith, t.1)) (got_snoc xs a b j e)

  pub got_front : (l : List A) (a b : A) (j : ℕ) → slice_get l j ≡ Some b → slice_get (l ++ a ∷ []) j ≡ Some b
  got_front [] a b j e = absurd (cc)
  got_front (x ∷ xs) a b zero e = e
  got_front (x ∷ xs) a b (suc j) e = got_front xs a b j e

  pub got_last : (l : List A) (a : A) → slice_get (l ++ a ∷ []) (length l) ≡ Some a
  got_last [] a = refl
  got_last (x ∷ xs) a = got_last xs a

module _ {P N : Type 0} where
  pub last_seat : (table : TableId) (olds news : List (SeatView P N)) (last : SeatView P N) → AreOthers table olds → olds ≡ news ++ last ∷ [] → IsIdle table (length news + 1) last
  last_seat table olds news last is items = is.each (length news) last (ap (λ (l : List (SeatView P N)). slice_get l (length news)) items ∙ got_last news last)

  pub others_less : (table : TableId) (olds news : List (SeatView P N)) (last : SeatView P N) → AreOthers table olds → olds ≡ news ++ last ∷ [] → AreOthers table news
  others_less table olds news last is items = record { each = λ i s e. is.each i s (ap (λ (l : List (SeatView P N)). slice_get l i) items ∙ got_front news last s i e) }

  -- seat 0 is in front of the others
  pub first_and_others : (turns : TurnsView) (r : SeatView P N) (l rs : List (SeatView P N)) → AreAllIdle turns l → l ≡ r ∷ rs → IsIdle turns.table 0 r × AreOthers turns.table rs × (length rs + 1 ≡ turns.places)
  first_and_others turns r l rs is items =
      let all : AreAllIdle turns (r ∷ rs) = subst (λ (z : List (SeatView P N)). AreAllIdle turns z) items is in
      let many = all.many in (
        all.each 0 r refl,
        record { each = λ i s e. let up : suc i ≡ i + 1 = omega arith in subst (λ (n : ℕ). IsIdle turns.table n s) up (all.each (suc i) s e) },
        omega (arith, many),
      )

  -- a name that all had when they were joined
  pub joined_named : (x : N) (l : List (SeatView P N)) → AllByRecursion (λ y. y ≡ Some x) (map (λ s. s.name) l) → (i : ℕ) (s : SeatView P N) → slice_get l i ≡ Some s → s.name ≡ Some x
  joined_named x [] all i s e = absurd (none_some e)
  joined_named x (r ∷ rs) all zero s e = ap (λ (z : SeatView P N). z.name) (sym (inner_some e)) ∙ all.0
  joined_named x (r ∷ rs) all (suc i) s e = joined_named x rs all.1 i s e

  pub all_named : (x : N) (r : SeatView P N) (l rs : List (SeatView P N)) → l ≡ r ∷ rs → r.name ≡ Some x → AllByRecursion (λ y. y ≡ Some x) (map (λ s. s.name) rs) → AreNamed x l
  all_named x r l rs is mine all = subst (λ (z : List (SeatView P N)). AreNamed x z) (sym is) record { each = at }
    where
      at : (i : ℕ) (s : SeatView P N) → slice_get (r ∷ rs) i ≡ Some s → s.name ≡ Some x
      at zero s e = ap (λ (z : SeatView P N). z.name) (sym (inner_some e)) ∙ mine
      at (suc i) s e = joined_named x rs all i s e

module _ {T P N : Type 0} where
  -- one more was split off
  pub split_next : (table : TableId) (v : View T P N) (k : ℕ) (me1 me2 me3 : Seated T P N) (seats seats' : List (SeatView P N)) → AreSplit table v k me1.0 me1.1 seats
      → me2 ≡ (record me1.0 { seats = me1.0.seats + 1 }, me1.1) → me3 ≡ (new_view me1.0, []) → seats' ≡ seats ++ seat_view table me3.0 ∷ [] → AreSplit table v (k + 1) me2.0 me2.1 seats'
  split_next table v k me1 me2 me3 seats seats' is first new items =
      let many = is.many in
      let its : me3.0 ≡ later_view k v.name = ap (λ (m : Seated T P N). m.0) new ∙ ap (λ (u : View T P N). new_view u) is.view in record {
        view = ap (λ (m : Seated T P N). m.0) first ∙ ap (λ (u : View T P N). let w : View T P N = record u { seats = u.seats + 1 } in w) is.view;
        hand_is = ap (λ (m : Seated T P N). m.1) first ∙ is.hand_is;
        many = let l : length seats' ≡ length seats + 1 = ap (λ (l : List (SeatView P N)). length l) items ∙ snoc_long seats in omega (arith, l, many);
        each = λ i s e. ⊎_elim (λ (t : slice_get seats i ≡ Some s). is.each i s t)
            (λ (t : (i ≡ length seats) × (seat_view table me3.0 ≡ s)). let q = t.0 in let up : k ≡ i + 1 = omega (arith, q, many) in sym t.1 ∙ ap (λ (u : View T P N). seat_view table u) (its ∙ ap (λ (n : ℕ). later_view n v.name) up))
            (got_snoc seats (seat_view table me3.0) s i (ap (λ (l : List (SeatView P N)). slice_get l i) (sym items) ∙ e));
      }
    where
      snoc_long : (l : List (SeatView P N)) → length (l ++ seat_view table me3.0 ∷ []) ≡ length l + 1
      snoc_long [] = refl
      snoc_long (x ∷ xs) = let e : length (xs ++ seat_view table me3.0 ∷ []) ≡ length xs + 1 = snoc_long xs in omega arith

  -- seat 0, taken from the front of all seats
  pub front_is : (number : ℕ) (table table' : TableId) (me : Seated T P N) (r : SeatView P N) (l rs : List (SeatView P N)) → IsSeatKept number table' me.0 me.1 → seat_view table' me.0 ≡ r
      → AreAllIdle (turns_view table) l → l ≡ r ∷ rs → IsFront table l table' me rs
  front_is number table table' me r l rs kept shown all items =
      let t = first_and_others (turns_view table) r l rs all items in
      let same : table' ≡ table = ap (λ (z : SeatView P N). z.table) shown ∙ t.0.table_is in
      let number_is : me.0.number ≡ 0 = ap (λ (z : SeatView P N). z.number) shown ∙ t.0.number_is in
      let seats = kept.seats_are (sym kept.same ∙ number_is) in
      let slots : table'.slots ≡ table.slots = ap (λ (z : TableId). z.slots) same in
      let low = kept.low in let others = t.2 in record {
        of_table = same;
        words_are = subst (λ (z : TableId). z.words ≡ z.slots + 1) same kept.words_are;
        free = kept_free number table' me kept r shown t.0.nothing;
        number_is = number_is;
        seats_are = omega (arith, seats, slots, low, others);
        joined_none = kept.joined_none;
        named = kept.named;
        are_others = t.1;
        all_are = items ∙ ap (λ (z : SeatView P N). z ∷ rs) (sym shown ∙ ap (λ (z : TableId). seat_view z me.0) same);
      }

  -- seat 0, with one more seat joined into it
  pub joined_next : (v v1 v2 w : View T P N) (l k : ℕ) → v2 ≡ joined_view v1 w → v1 ≡ record v { seats = l + 1; joined = v1.joined } → l ≡ k + 1 → v2 ≡ record v { seats = k + 1; joined = v2.joined }
  joined_next v v1 v2 w l k e e1 q =
      e ∙ ap (λ (ys : List (Option N)). let u : View T P N = record v1 { seats = v1.seats - 1; joined = ys } in u) (sym (ap (λ (u : View T P N). u.joined) e))
      ∙ ap (λ (u : View T P N). let z : View T P N = record u { seats = u.seats - 1; joined = v2.joined } in z) e1
      ∙ ap (λ (n : ℕ). let u : View T P N = record v { seats = n; joined = v2.joined } in u) (let z : l + 1 - 1 ≡ k + 1 = omega arith in z)

  pub joined_first : (v : View T P N) (l : List (SeatView P N)) → v.seats ≡ length l + 1 → v ≡ record v { seats = length l + 1; joined = v.joined }
  joined_first v l e = ap (λ (n : ℕ). let u : View T P N = record v { seats = n } in u) e

  -- seat 0, with all others joined into it
  pub joined_last : (v : View T P N) (me : Seated T P N) (left all : List (SeatView P N)) → left ≡ [] → me.0 ≡ record v { seats = length left + 1; joined = me.0.joined } → me.1 ≡ []
      → names_of left ++ me.0.joined ≡ names_of all → me ≡ (record v { seats = 1; joined = names_of all }, [])
  joined_last v me left all none view hand names =
      let joined : me.0.joined ≡ names_of all = ap (λ (l : List (SeatView P N)). names_of l ++ me.0.joined) (sym none) ∙ names in
      let is : me.0 ≡ record v { seats = 1; joined = names_of all } = view ∙ (λ i. record v { seats = length (none i) + 1; joined = joined i }) in
      λ i. (is i, hand i)

  -- its name is among those that were joined
  pub joined_names_next : (olds news : List (SeatView P N)) (last : SeatView P N) (table : TableId) (v1 v2 w : View T P N) → olds ≡ news ++ last ∷ [] → seat_view table w ≡ last → v2 ≡ joined_view v1 w
      → names_of news ++ v2.joined ≡ names_of olds ++ v1.joined
  joined_names_next olds news last table v1 v2 w items shown is =
      ap (λ (u : View T P N). map (λ s. s.name) news ++ u.joined) is
      ∙ ap (λ (s : SeatView P N). map (λ s. s.name) news ++ s.name ∷ v1.joined) shown
      ∙ snoc_names news
      ∙ ap (λ (l : List (SeatView P N)). map (λ s. s.name) l ++ v1.joined) (sym items)
    where
      snoc_names : (l : List (SeatView P N)) → map (λ s. s.name) l ++ last.name ∷ v1.joined ≡ map (λ s. s.name) (l ++ last ∷ []) ++ v1.joined
      snoc_names [] = refl
      snoc_names (x ∷ xs) = λ i. x.name ∷ snoc_names xs i

  pub ended_good : (good : T → List P → Type 0) (name : T → N) (xs : List (Slot T P)) (x : N) (t : T) (places : List P) → AreLast good name xs x → get_elem? xs 0 ≡ some (Some (Bus t)) → length places + 1 ≡ length xs
      → ((j : ℕ) (p : P) → slice_get places j ≡ Some p → get_elem? xs (j + 1) ≡ some (Some (Place p))) → good t places
  ended_good good name xs x t places e bus many each =
      let bus_same : e.bus ≡ t = inner_bus (some-injective (Some (Bus e.bus)) (Some (Bus t)) (sym e.bus_is ∙ bus)) in
      let long = e.many in
      let places_same : places ≡ e.places = same_list places e.places (omega (arith, many, long))
      (λ i p q. let low : i < length places = got_in places i p q in let g = got_there e.places i (omega (arith, low, many, long)) in
      g.1 ∙ ap (λ (z : P). Some z) (inner_place (some-injective (Some (Place g.0)) (Some (Place p)) (sym (e.place_is i g.0 g.1) ∙ each i p q)))) in
      subst (λ (z : T × List P). good z.0 z.1) (λ i. (bus_same i, sym places_same i)) e.is_good
    where
      inner_bus : {a b : T} → ◌≡◌ {A = Slot T P} (Some (Bus a)) (Some (Bus b)) → a ≡ b
      inner_bus q = cc

      inner_place : {a b : P} → ◌≡◌ {A = Slot T P} (Some (Place a)) (Some (Place b)) → a ≡ b
      inner_place q = cc

      got_in : (l : List P) (i : ℕ) (p : P) → slice_get l i ≡ Some p → i < length l
      got_in [] i p q = absurd (cc)
      got_in (y ∷ ys) zero p q = omega arith
      got_in (y ∷ ys) (suc i) p q = let r : i < length ys = got_in ys i p q in omega arith

-- what lies in the slots when all others are joined into seat 0, and that all seats had the name of the bus
pub front_closes : {T P N : Type 0} (good : T → List P → Type 0) (name : T → N) (id : ℕ) (table seat_table : TableId) (all others : List (SeatView P N)) (me me' : Seated T P N) (ws : List ℕ) (xs : List (Slot T P))
    → (is : IsFront table all seat_table me others) → me' ≡ (record me.0 { seats = 1; joined = names_of others }, [])
    → Final (Seen (IsKept good name) id me'.0) ws xs → AreLast good name xs is.named.0 × AreNamed is.named.0 all
front_closes {T} {P} {N} good name id table seat_table all others me me' ws xs is joined final =
    let x : N = is.named.0 in
    let view : me'.0 ≡ record me.0 { seats = 1; joined = names_of others } = ap (λ (m : Seated T P N). m.0) joined in
    let ends = closes good name id me'.0 x ws xs (ap (λ (v : View T P N). v.live) view ∙ is.free.live) (ap (λ (v : View T P N). v.number) view ∙ is.number_is) (ap (λ (v : View T P N). v.stock) view ∙ is.free.stock)
    (ap (λ (v : View T P N). v.own) view ∙ is.free.own) (ap (λ (v : View T P N). v.name) view ∙ is.named.1) (ap (λ (v : View T P N). v.seats) view) final in
    let names : me'.0.joined ≡ names_of others = ap (λ (v : View T P N). v.joined) view in
    (ends.0, all_named x (seat_view table me.0) all others is.all_are is.named.1 (subst (λ (l : List (Option N)). AllByRecursion (λ y. y ≡ Some x) l) names ends.1))

-- what is removed at the front
pub removed_first : {A : Type 0} (l rs : List A) (r : A) → 0 < length l → r ≡ slice_index_or l 0 r → rs ≡ take 0 l ++ drop 1 l → l ≡ r ∷ rs
removed_first [] rs r h e is = absurd (omega arith)
removed_first (x ∷ xs) rs r h e is = λ i. sym e i ∷ sym is i

set_false : (fs : List Bool) (n : ℕ) → get_or (set fs n false) n false ≡ false
set_false [] n = refl
set_false (x ∷ xs) zero = refl
set_false (x ∷ xs) (suc n) = set_false xs n

pub gone_next : (fs : List Bool) (n : ℕ) → ((k : ℕ) → k < n → get_or fs k false ≡ false) → (k : ℕ) → k < n + 1 → get_or (set fs n false) k false ≡ false
gone_next fs n h k low = dite (ℕ_discrete k n) (λ q. ap (λ (i : ℕ). get_or (set fs n false) i false) q ∙ set_false fs n) (λ ne. get_or-set_other fs n k false false ne ∙ h k (omega arith))
