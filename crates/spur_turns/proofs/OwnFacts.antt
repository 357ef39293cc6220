-- A seat takes its own place, or finds that the bus has it, and gives it back.
use mathlib.Core.Logic.{dite}
use mathlib.Core.Option.{none, some, some-injective}
use native.Mathlib.Decide.{ℕ_discrete}
use lib.ListN.{get_elem?}
use lib.Seq.{set-get_or}
use prog.Atomic.{either}
use Rattle.std.specs.Prelude.{slice_get}
use Rattle.std.proofs.Common.{◌≡◌, ◌≢◌, ℕ, ◌+◌, ◌<◌, true, eqb, List, [], ◌∷◌, length, get_or, set, sym, refl, ap, ◌∙◌, subst, ⊎_elim, arith, Some, None, length-set, get_or-set_other, get_or-set_same}
use Rattle.atomic_table.specs.Table.{Step, Act, keeps, takes, gives, Allows, Valid, stepped, carried_after}
use Rattle.atomic_table.proofs.Lists.{set_here, set_else, exchanged}
use Rattle.spur_turns.specs.declared.table.View.{View}
use Rattle.spur_turns.specs.declared.table.Item.TheVariants.{Place}
use Rattle.spur_turns.specs.Views.{Slot}
use Rattle.spur_turns.specs.Rule.{IsKept}
use Rattle.spur_turns.specs.Kinds.{Seated, TriedOwn, GaveOwn}
use Rattle.spur_turns.proofs.ListFacts.{inner_some, none_some, got_there, got_set, put, put_here, put_else}
use Rattle.spur_turns.proofs.NumberFacts.{not_both, numbered_set}
use Rattle.spur_turns.proofs.HoldFacts.{own_holds}
use Rattle.spur_turns.proofs.RuleFacts.{kept, rule_holds, full_of, is_opened, knows_set, keeps_rule, other_number, zero_one, zero_two, one_two}

module _ {T P N : Type 0} (good : T → List P → Type 0) (name : T → N) where
  -- the try of the seat number i, which holds nothing, for its own place
  module _ (own_step : ℕ → P → P → Type 0) (rests : (b : T) (ps : List P) (i : ℕ) (p : P) → good b ps → slice_get ps i ≡ Some p → own_step i p p) where
    takes_it : (k id i : ℕ) (v : View T P N) (x : N) (st : Step (Slot T P)) → v.live ≡ true → v.number ≡ i → v.stock ≡ [] → v.own ≡ None → v.name ≡ Some x → i + 1 < k
        → Allows (IsKept good name) k id (v, []) (i + 2) (λ n. either (eqb n 0) 1 n) (TriedOwn own_step st (v, []))
    takes_it k id i v x st live number bare unowned named low s r slots at fits =
        let h = rule_holds good name s r in
        let deep = h.deep in let wide = h.wide in
        let inside : i < r.places = omega (arith, deep, slots, low) in
        let f = full_of good name s r (is_opened good name s r id v x at live named) in
        let many = f.many in
        let mine : (p : P) × (slice_get f.places i ≡ Some p) = got_there f.places i (omega (arith, many, inside)) in
        let p : P = mine.0 in
        let cur_is : r.current (i + 1) ≡ Some (Place p) = f.place_is i p mine.1 in
        let po = h.each i inside in
        let at_id : r.stands i ≡ id = ap r.stands (sym number) ∙ (r.seats_are_numbered.live_number id v at live).1 in
        exchanged (get_or s.words (i + 2) 0) 0 1
        (λ (n' : ℕ). (w : View T P N) × (a : Act (Slot T P)) × Valid s.homes [] a × IsKept good name (stepped s (i + 2) n' id [] w a) × TriedOwn own_step st (v, []) (get_or s.words (i + 2) 0) (w, carried_after [] a))
        (λ free.
        let w : View T P N = record v { own = Some p } in
        let one : get_or (set s.words (i + 2) 1) (i + 2) 0 ≡ 1 = get_or-set_same s.words (i + 2) 1 0 (omega (arith, wide, inside)) in
        let not_held : i + 1 < length r.held → ⊥ = λ l. zero_two (sym free ∙ po.held_two l) in (
          w,
          takes (i + 1) (Some (Place p)),
          po.home free ∙ ap (λ (y : Slot T P). some (some y)) cur_is,
          keeps_rule good name s r id v w (set s.words (i + 2) 1) (set s.homes (i + 1) none) r.holder r.held at live live refl refl refl refl refl
              (own_holds r.places s.words (set s.words (i + 2) 1) s.homes (set s.homes (i + 1) none) s.views r.stands r.holder r.held r.current r.current id i v w h at bare bare number number at_id inside
              (length-set s.words (i + 2) 1 ∙ wide) (length-set s.homes (i + 1) none ∙ deep)
              (λ q ne. get_or-set_other s.words (i + 2) q 1 0 ne) (λ q ne. set_else s.homes (i + 1) q none ne) (λ q ne. refl) (λ _. refl)
              record {
                under = subst (λ (n : ℕ). n < 3) (sym one) (omega arith);
                home = λ z. absurd (zero_one (sym z ∙ one));
                two = λ z. absurd (one_two (sym one ∙ z));
                held_two = λ l. absurd (not_held l);
              }
              (λ p' e. record {
                low = subst (λ (n : ℕ). n < r.places) (sym number) inside;
                word = subst (λ (n : ℕ). get_or (set s.words (i + 2) 1) (n + 2) 0 ≡ 1) (sym number) one;
                value = ap (λ (n : ℕ). r.current (n + 1)) number ∙ (cur_is ∙ ap (λ (z : P). Some (Place z)) (inner_some e));
                stock = bare;
              })
              (λ _. (p, refl)) (other_number good name s r id i v at live number)),
          record {
            hit = λ _. (p, refl, ap (λ (n : ℕ). (n + 1, Some (Place p)) ∷ []) (sym number), subst (λ (n : ℕ). own_step n p p) (sym number) (rests f.bus f.places i p f.is_good mine.1));
            busy = λ ne. absurd (ne free);
          },
        ))
        (λ taken.
        let w : View T P N = record v { met = v.met + 1 } in
        let two : get_or s.words (i + 2) 0 ≡ 2 = dite (ℕ_discrete (get_or s.words (i + 2) 0) 1)
        (λ is. let t = h.owner i inside is in absurd (none_some (sym unowned ∙ (ap (λ (u : View T P N). u.own) (sym (some-injective t.0 v (sym t.2 ∙ (ap (get_elem? s.views) at_id ∙ at)))) ∙ t.3))))
        (λ not. let b = po.under in omega (arith, b, taken, not)) in (
          w,
          keeps,
          tt,
          subst (λ (ws : List ℕ). IsKept good name record { words = ws; homes = s.homes; views = set s.views id w }) (sym (set-get_or s.words (i + 2) 0))
              (keeps_rule good name s r id v w s.words s.homes r.holder r.held at live live refl refl refl refl refl
              (own_holds r.places s.words s.words s.homes s.homes s.views r.stands r.holder r.held r.current r.current id i v w h at bare bare number number at_id inside wide deep
              (λ q ne. refl) (λ q ne. refl) (λ q ne. refl) (λ _. refl) po (λ p' e. absurd (none_some (sym unowned ∙ e))) (λ is. absurd (one_two (sym is ∙ two))) (other_number good name s r id i v at live number))),
          record { hit = λ z. absurd (taken z); busy = λ _. (two, refl, refl) },
        ))

    pub takes_from : (k id i : ℕ) (me : Seated T P N) (x : N) (st : Step (Slot T P)) → me.0.live ≡ true → me.0.number ≡ i → me.0.stock ≡ [] → me.0.own ≡ None → me.0.name ≡ Some x → me.1 ≡ [] → i + 1 < k
        → Allows (IsKept good name) k id me (i + 2) (λ n. either (eqb n 0) 1 n) (TriedOwn own_step st me)
    takes_from k id i me x st live number bare unowned named hand low = subst (λ (m : Seated T P N). Allows (IsKept good name) k id m (i + 2) (λ n. either (eqb n 0) 1 n) (TriedOwn own_step st m)) (λ j. (me.0, sym hand j)) (takes_it k id i me.0 x st live number bare unowned named low)

  -- K3: the seat number i gives its stands back, an own step on
  module _ (own_step : ℕ → P → P → Type 0) (keeps_good : (b : T) (ps : List P) (i : ℕ) (p q : P) → good b ps → slice_get ps i ≡ Some p → own_step i p q → good b (set ps i q)) where
    gives_it : (k id i : ℕ) (v : View T P N) (p q : P) (x : N) (st : Step (Slot T P)) → v.live ≡ true → v.number ≡ i → v.own ≡ Some p → own_step i p q → v.name ≡ Some x
        → Allows (IsKept good name) k id (v, (i + 1, Some (Place q)) ∷ []) (i + 2) (λ _. 0) (λ _. GaveOwn st (v, (i + 1, Some (Place q)) ∷ []) 0)
    gives_it k id i v p q x st live number owns moved named s r slots at fits =
        let h = rule_holds good name s r in
        let mine = h.owned id v p at owns in
        let inside : i < r.places = let low = mine.low in omega (arith, number, low) in
        let word_is : get_or s.words (i + 2) 0 ≡ 1 = ap (λ (n : ℕ). get_or s.words (n + 2) 0) (sym number) ∙ mine.word in
        let bare : v.stock ≡ [] = mine.stock in
        let f = full_of good name s r (is_opened good name s r id v x at live named) in
        let many = f.many in
        let found : (z : P) × (slice_get f.places i ≡ Some z) = got_there f.places i (omega (arith, many, inside)) in
        let same_place : found.0 ≡ p = inner (sym (f.place_is i found.0 found.1) ∙ (ap (λ (n : ℕ). r.current (n + 1)) (sym number) ∙ mine.value)) in
        let its : slice_get f.places i ≡ Some p = found.1 ∙ ap (λ (z : P). Some z) same_place in
        let at_id : r.stands i ≡ id = ap r.stands (sym number) ∙ (r.seats_are_numbered.live_number id v at live).1 in
        let wide = h.wide in let deep = h.deep in
        let po = h.each i inside in
        let w : View T P N = record v { own = None } in
        let y : Slot T P = Some (Place q) in
        let cur' : ℕ → Slot T P = put r.current (i + 1) y in
        let zero_is : get_or (set s.words (i + 2) 0) (i + 2) 0 ≡ 0 = get_or-set_same s.words (i + 2) 0 0 (omega (arith, wide, inside)) in
        let not_held : i + 1 < length r.held → ⊥ = λ l. one_two (sym word_is ∙ po.held_two l) in (
          w,
          gives,
          tt,
          kept good name _ record {
            seats = r.seats;
            places = r.places;
            opened = r.opened;
            stands = r.stands;
            holder = r.holder;
            held = r.held;
            cur = cur';
            roster = numbered_set r.seats r.opened r.opened r.stands s.views id v w r.seats_are_numbered at live live refl refl (λ z. (r.seats_are_numbered.first v (subst (λ (n : ℕ). get_elem? s.views n ≡ some v) z at)).opened_is) (λ _. refl);
            holds = own_holds r.places s.words (set s.words (i + 2) 0) s.homes (set s.homes (i + 1) (some y)) s.views r.stands r.holder r.held r.current cur' id i v w h at bare bare number number at_id inside
                (length-set s.words (i + 2) 0 ∙ wide) (length-set s.homes (i + 1) (some y) ∙ deep)
                (λ l ne. get_or-set_other s.words (i + 2) l 0 0 ne) (λ l ne. set_else s.homes (i + 1) l (some y) ne) (λ l ne. put_else r.current (i + 1) y l ne) (λ l. absurd (not_held l))
                record {
                  under = subst (λ (n : ℕ). n < 3) (sym zero_is) (omega arith);
                  home = λ _. set_here s.homes (i + 1) (some y) (omega (arith, deep, inside)) ∙ ap (λ (z : Slot T P). some (some z)) (sym (put_here r.current (i + 1) y));
                  two = λ z. absurd (zero_two (sym zero_is ∙ z));
                  held_two = λ l. absurd (not_held l);
                }
                (λ p' e. absurd (none_some e)) (λ z. absurd (zero_one (sym zero_is ∙ z))) (other_number good name s r id i v at live number);
            bare = λ unopened. absurd (not_both r.opened (is_opened good name s r id v x at live named) unopened);
            full = λ _. record {
              bus = f.bus;
              places = set f.places i q;
              many = length-set f.places i q ∙ f.many;
              is_good = keeps_good f.bus f.places i p q f.is_good its moved;
              bus_is = put_else r.current (i + 1) y 0 (λ l. omega arith) ∙ f.bus_is;
              place_is = λ j p' e. ⊎_elim
                  (λ (t : (j ≡ i) × (q ≡ p')). ap (λ (n : ℕ). cur' (n + 1)) t.0 ∙ (put_here r.current (i + 1) y ∙ ap (λ (z : P). Some (Place z)) t.1))
                  (λ (t : (j ≢ i) × (slice_get f.places j ≡ Some p')). put_else r.current (i + 1) y (j + 1) (λ l. t.0 (omega arith)) ∙ f.place_is j p' t.1) (got_set f.places i j q p' e);
              knows = knows_set (name f.bus) s.views id v w at live refl refl f.knows;
            };
          },
          record { view = refl; hand = refl },
        )
      where
        inner : {a b : P} → ◌≡◌ {A = Slot T P} (Some (Place a)) (Some (Place b)) → a ≡ b
        inner e = cc

    pub gives_from : (k id i : ℕ) (me : Seated T P N) (p q : P) (x : N) (st : Step (Slot T P)) → me.0.live ≡ true → me.0.number ≡ i → me.0.own ≡ Some p → own_step i p q → me.0.name ≡ Some x → me.1 ≡ (i + 1, Some (Place q)) ∷ []
        → Allows (IsKept good name) k id me (i + 2) (λ _. 0) (λ _. GaveOwn st me 0)
    gives_from k id i me p q x st live number owns moved named hand = subst (λ (m : Seated T P N). Allows (IsKept good name) k id m (i + 2) (λ _. 0) (λ _. GaveOwn st m 0)) (λ j. (me.0, sym hand j)) (gives_it k id i me.0 p q x st live number owns moved named)
