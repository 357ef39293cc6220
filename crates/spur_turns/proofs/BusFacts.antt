-- A seat takes the bus, and then each place in turn, or finds that another has it.
use mathlib.Core.Logic.{dite}
use mathlib.Core.Option.{none, some-injective}
use native.Mathlib.Decide.{ℕ_discrete}
use lib.ListN.{get_elem?}
use prog.Atomic.{either}
use Rattle.std.specs.Prelude.{slice_get}
use Rattle.std.proofs.Common.{◌≡◌, ◌≢◌, ℕ, zero, suc, ◌+◌, ◌<◌, true, false, eqb, List, [], ◌∷◌, length, get_or, set, sym, refl, ap, ◌∙◌, subst, ⊎_elim, arith, Some, None, length-set, get_or-set_other, get_or-set_same}
use Rattle.atomic_table.specs.Table.{State, Step, Act, keeps, takes, Allows, Valid, stepped, carried_after}
use Rattle.atomic_table.proofs.Lists.{set_else, exchanged}
use Rattle.spur_turns.specs.declared.table.View.{View}
use Rattle.spur_turns.specs.declared.table.Item.TheVariants.{Bus, Place}
use Rattle.spur_turns.specs.Views.{Slot, held_at, stock_of}
use Rattle.spur_turns.specs.Rule.{IsKept}
use Rattle.spur_turns.specs.Kinds.{Seated, TriedBus, TriedPlace}
use Rattle.spur_turns.proofs.ListFacts.{true_or_false, inner_some, none_some, got_there, same_list}
use Rattle.spur_turns.proofs.StockFacts.{held_top, held_under, held_within, stock_long, held_bus, held_place}
use Rattle.spur_turns.proofs.NumberFacts.{lone}
use Rattle.spur_turns.proofs.HoldFacts.{PlaceHeld, bus_holds}
use Rattle.spur_turns.proofs.RuleFacts.{rule_holds, full_of, is_opened, is_unopened, keeps_rule, keeps_all, one_holder, zero_one, zero_two, one_two}

module _ {T P N : Type 0} (good : T → List P → Type 0) (name : T → N) where
  -- a seat that holds nothing tries for the bus
  takes_bus_it : (k id : ℕ) (v : View T P N) (st : Step (Slot T P)) → st.slots ≡ k → v.live ≡ true → v.stock ≡ [] → v.own ≡ None → Allows (IsKept good name) k id (v, []) 0 (λ n. either (eqb n 0) 1 n) (TriedBus good st (v, []))
  takes_bus_it k id v st counted live bare unowned s r slots at fits =
      let h = rule_holds good name s r in
      let deep = h.deep in let wide = h.wide in
      let none_mine : length v.stock ≡ 0 = ap (λ (l : List (Slot T P)). length l) bare in
      exchanged (get_or s.words 0 0) 0 1
      (λ (n' : ℕ). (w : View T P N) × (a : Act (Slot T P)) × Valid s.homes [] a × IsKept good name (stepped s 0 n' id [] w a) × TriedBus good st (v, []) (get_or s.words 0 0) (w, carried_after [] a))
      (λ free.
      let t = h.bus.free free in
      let none_held : length r.held ≡ 0 = t.0 in
      let y : Slot T P = r.current 0 in
      let w : View T P N = record v { stock = y ∷ v.stock } in
      let one : get_or (set s.words 0 1) 0 0 ≡ 1 = get_or-set_same s.words 0 1 0 (omega (arith, wide)) in
      let same : (i : ℕ) → get_or (set s.words 0 1) (i + 2) 0 ≡ get_or s.words (i + 2) 0 = λ i. get_or-set_other s.words 0 (i + 2) 1 0 (λ q. omega arith) in (
        w,
        takes 0 y,
        t.1,
        keeps_rule good name s r id v w (set s.words 0 1) (set s.homes 0 none) id w.stock at live live refl refl refl refl refl
            (bus_holds r.places s.words (set s.words 0 1) s.homes (set s.homes 0 none) s.views r.stands r.holder r.held r.current r.current id v w h at unowned unowned
            (λ j u ne e l. let its = ap (λ (a : List (Slot T P)). length a) (h.stocked j u e l).1 in omega (arith, l, its, none_held))
            (length-set s.words 0 1 ∙ wide) (length-set s.homes 0 none ∙ deep) (omega (arith, none_mine))
            (λ i z e. let l = held_within (y ∷ v.stock) i z e in let q : i ≡ length v.stock = omega (arith, l, none_mine) in
            ap r.current (q ∙ none_mine) ∙ inner_some (sym (held_top y v.stock) ∙ (ap (held_at (y ∷ v.stock)) (sym q) ∙ e)))
            record { free = λ z. absurd (zero_one (sym z ∙ one)); taken = λ _. (one, omega arith) }
            (λ i low. let o = h.each i low in record {
              under = subst (λ (n : ℕ). n < 3) (sym (same i)) o.under;
              home = λ z. set_else s.homes 0 (i + 1) none (λ q. omega arith) ∙ o.home (sym (same i) ∙ z);
              two = λ z. let l = o.two (sym (same i) ∙ z) in absurd (omega (arith, l, none_held));
              held_two = λ l. absurd (omega (arith, l, none_mine));
            })
            (λ i low z. (same i ∙ z, refl)) (λ i low z. sym (same i) ∙ z)),
        record {
          hit = λ _. (
            y,
            record { view = refl; hand = ap (λ (n : ℕ). (n, y) ∷ []) (sym none_mine) },
            (λ unnamed. (r.values_are_empty (is_unopened good name s r id v at live unnamed)).empty 0 (omega arith)),
            (λ x is. let f = full_of good name s r (is_opened good name s r id v x at live is) in let many = f.many in (f.bus, f.places, f.bus_is, omega (arith, many, deep, slots, counted), f.is_good)),
          );
          miss = λ ne. absurd (ne free);
          alone = λ _. free;
        },
      ))
      (λ busy. (
        v,
        keeps,
        tt,
        keeps_all good name s r id 0 v at,
        record {
          hit = λ free. absurd (busy free);
          miss = λ _. refl;
          alone = λ unnamed. absurd (
              let b = r.values_are_empty (is_unopened good name s r id v at live unnamed) in
              let t = h.bus.taken busy in
              let u = h.keeper t.1 in
              let ulen : length u.0.stock ≡ length r.held = ap (λ (l : List (Slot T P)). length l) u.2 in
              let some_held = t.1 in
              let is_v : u.0.live ≡ true → ⊥ = λ l. let there = (lone r.seats r.opened r.stands s.views r.holder u.0 r.seats_are_numbered b.alone u.1 l).1 in let here = (lone r.seats r.opened r.stands s.views id v r.seats_are_numbered b.alone at live).1 in
              let same_view : u.0 ≡ v = some-injective u.0 v (sym u.1 ∙ (ap (get_elem? s.views) (there ∙ sym here) ∙ at)) in let e : length u.0.stock ≡ length v.stock = ap (λ (z : View T P N). length z.stock) same_view in omega (arith, e, ulen, some_held, none_mine) in
              ⊎_elim is_v (λ (l : u.0.live ≡ false). let e : length u.0.stock ≡ 0 = ap (λ (z : List (Slot T P)). length z) (r.seats_are_numbered.spent r.holder u.0 u.1 l).0 in omega (arith, e, ulen, some_held)) (true_or_false u.0.live));
        },
      ))

  pub takes_bus_from : (k id : ℕ) (me : Seated T P N) (st : Step (Slot T P)) → st.slots ≡ k → me.0.live ≡ true → me.0.stock ≡ [] → me.0.own ≡ None → me.1 ≡ [] → Allows (IsKept good name) k id me 0 (λ n. either (eqb n 0) 1 n) (TriedBus good st me)
  takes_bus_from k id me st counted live bare unowned hand = subst (λ (m : Seated T P N). Allows (IsKept good name) k id m 0 (λ n. either (eqb n 0) 1 n) (TriedBus good st m)) (λ j. (me.0, sym hand j)) (takes_bus_it k id me.0 st counted live bare unowned)

  -- who holds the bus and the first j places tries for the next
  pub takes_place : (k id j : ℕ) (me : Seated T P N) (st : Step (Slot T P)) → st.slots ≡ k → me.0.live ≡ true → length me.0.stock ≡ j + 1 → me.0.own ≡ None → j + 1 < k → Allows (IsKept good name) k id me (j + 2) (λ n. either (eqb n 0) 2 n) (TriedPlace good name st me)
  takes_place k id j me st counted live tall unowned low s r slots at fits =
      let v : View T P N = me.0 in
      let h = rule_holds good name s r in
      let deep = h.deep in let wide = h.wide in
      let inside : j < r.places = omega (arith, deep, slots, low) in
      let some_mine : 0 < length v.stock = omega (arith, tall) in
      let held_is : v.stock ≡ r.held = (h.stocked id v at some_mine).1 in
      let held_tall : length r.held ≡ j + 1 = ap (λ (l : List (Slot T P)). length l) (sym held_is) ∙ tall in
      let po = h.each j inside in
      exchanged (get_or s.words (j + 2) 0) 0 2
      (λ (n' : ℕ). (w : View T P N) × (a : Act (Slot T P)) × Valid s.homes me.1 a × IsKept good name (stepped s (j + 2) n' id me.1 w a) × TriedPlace good name st me (get_or s.words (j + 2) 0) (w, carried_after me.1 a))
      (λ free.
      let y : Slot T P = r.current (j + 1) in
      let w : View T P N = record v { stock = y ∷ v.stock } in
      let two : get_or (set s.words (j + 2) 2) (j + 2) 0 ≡ 2 = get_or-set_same s.words (j + 2) 2 0 (omega (arith, wide, inside)) in
      let same : (q : ℕ) → q ≢ j + 2 → get_or (set s.words (j + 2) 2) q 0 ≡ get_or s.words q 0 = λ q ne. get_or-set_other s.words (j + 2) q 2 0 ne in
      let values : (i : ℕ) (z : Slot T P) → held_at (y ∷ v.stock) i ≡ Some z → r.current i ≡ z = λ i z e. dite (ℕ_discrete i (length v.stock))
      (λ q. ap r.current (q ∙ tall) ∙ inner_some (sym (held_top y v.stock) ∙ (ap (held_at (y ∷ v.stock)) (sym q) ∙ e)))
      (λ ne. h.values i z (subst (λ (l : List (Slot T P)). held_at l i ≡ Some z) held_is (sym (held_under y v.stock i ne) ∙ e))) in (
        w,
        takes (j + 1) y,
        po.home free,
        keeps_rule good name s r id v w (set s.words (j + 2) 2) (set s.homes (j + 1) none) id w.stock at live live refl refl refl refl refl
            (bus_holds r.places s.words (set s.words (j + 2) 2) s.homes (set s.homes (j + 1) none) s.views r.stands r.holder r.held r.current r.current id v w h at unowned unowned
            (one_holder good name s r id v at some_mine) (length-set s.words (j + 2) 2 ∙ wide) (length-set s.homes (j + 1) none ∙ deep) (omega (arith, tall, inside)) values
            (let o = h.bus in let taken = o.taken (λ z. let e = (o.free z).0 in omega (arith, e, held_tall)) in record {
              free = λ z. let e = (o.free (sym (same 0 (λ q. omega arith)) ∙ z)).0 in absurd (omega (arith, e, held_tall));
              taken = λ _. (same 0 (λ q. omega arith) ∙ taken.0, omega arith);
            })
            (λ i below. dite (ℕ_discrete i j)
            (λ q. subst (PlaceHeld (set s.words (j + 2) 2) (set s.homes (j + 1) none) w.stock r.current) (sym q) record {
              under = subst (λ (n : ℕ). n < 3) (sym two) (omega arith);
              home = λ z. absurd (zero_two (sym z ∙ two));
              two = λ _. omega (arith, tall);
              held_two = λ _. two;
            })
            (λ ne. let o = h.each i below in let word : get_or (set s.words (j + 2) 2) (i + 2) 0 ≡ get_or s.words (i + 2) 0 = same (i + 2) (λ q. ne (omega arith)) in record {
              under = subst (λ (n : ℕ). n < 3) (sym word) o.under;
              home = λ z. set_else s.homes (j + 1) (i + 1) none (λ q. ne (omega arith)) ∙ o.home (sym word ∙ z);
              two = λ z. let l = o.two (sym word ∙ z) in omega (arith, l, held_tall, tall);
              held_two = λ l. word ∙ o.held_two (omega (arith, l, ne, held_tall, tall));
            }))
            (λ i below z. (same (i + 2) (λ q. zero_one (sym free ∙ (ap (λ (n : ℕ). get_or s.words n 0) (sym q) ∙ z))) ∙ z, refl))
            (λ i below z. dite (ℕ_discrete i j) (λ q. absurd (one_two (sym z ∙ (ap (λ (n : ℕ). get_or (set s.words (j + 2) 2) (n + 2) 0) q ∙ two)))) (λ ne. sym (same (i + 2) (λ q. ne (omega arith))) ∙ z))),
        record {
          hit = λ _. (
            y,
            record { view = refl; hand = ap (λ (n : ℕ). (n, y) ∷ me.1) (sym tall) },
            (λ unnamed. (r.values_are_empty (is_unopened good name s r id v at live unnamed)).empty (j + 1) (omega (arith, inside))),
            (λ x is. let f = full_of good name s r (is_opened good name s r id v x at live is) in let many = f.many in let t = got_there f.places j (omega (arith, many, inside)) in (t.0, f.place_is j t.0 t.1)),
          );
          whole = λ _ x is all t ps e.
              let f = full_of good name s r (is_opened good name s r id v x at live is) in
              let many = f.many in
              let long : length (y ∷ v.stock) ≡ length (stock_of t ps) = ap (λ (l : List (Slot T P)). length l) e in
              let long' = stock_long t ps in
              let value : (i : ℕ) (z : Slot T P) → held_at (stock_of t ps) i ≡ Some z → r.current i ≡ z = λ i z q. values i z (subst (λ (l : List (Slot T P)). held_at l i ≡ Some z) (sym e) q) in
              let bus_same : f.bus ≡ t = inner_bus (sym f.bus_is ∙ value 0 (Some (Bus t)) (held_bus t ps)) in
              let places_same : ps ≡ f.places = same_list ps f.places (omega (arith, long, long', all, counted, slots, deep, many))
              (λ i p q. let low : i < length ps = got_within ps i p q in let g = got_there f.places i (omega (arith, low, long, long', all, counted, slots, deep, many)) in
              g.1 ∙ ap (λ (z : P). Some z) (inner_place (sym (f.place_is i g.0 g.1) ∙ value (i + 1) (Some (Place p)) (held_place t ps i p q)))) in
              (subst (λ (z : T × List P). good z.0 z.1) (λ i. (bus_same i, sym places_same i)) f.is_good, inner_some (ap (λ (z : T). Some (name z)) (sym bus_same) ∙ (sym ((f.knows id v at).own_name live) ∙ is)));
          miss = λ ne. absurd (ne free);
          alone = λ _. free;
        },
      ))
      (λ busy. (
        v,
        keeps,
        tt,
        keeps_all good name s r id (j + 2) v at,
        record {
          hit = λ free. absurd (busy free);
          whole = λ free. absurd (busy free);
          miss = λ _. (refl, po.under);
          alone = λ unnamed. absurd (
              let b = r.values_are_empty (is_unopened good name s r id v at live unnamed) in
              let is_one : get_or s.words (j + 2) 0 ≡ 1 = let u = po.under in omega (arith, busy, u, not_two s r j inside held_tall) in
              let t = h.owner j inside is_one in
              let away : t.0.live ≡ true → ⊥ = λ l. let there = (lone r.seats r.opened r.stands s.views (r.stands j) t.0 r.seats_are_numbered b.alone t.2 l).1 in let here = (lone r.seats r.opened r.stands s.views id v r.seats_are_numbered b.alone at live).1 in
              let same_view : t.0 ≡ v = some-injective t.0 v (sym t.2 ∙ (ap (get_elem? s.views) (there ∙ sym here) ∙ at)) in none_some (sym unowned ∙ (ap (λ (z : View T P N). z.own) (sym same_view) ∙ t.3)) in
              ⊎_elim away (λ (l : t.0.live ≡ false). none_some (sym (r.seats_are_numbered.spent (r.stands j) t.0 t.2 l).1 ∙ t.3)) (true_or_false t.0.live));
        },
      ))
    where
      inner_bus : {a b : T} → ◌≡◌ {A = Slot T P} (Some (Bus a)) (Some (Bus b)) → a ≡ b
      inner_bus e = cc

      inner_place : {a b : P} → ◌≡◌ {A = Slot T P} (Some (Place a)) (Some (Place b)) → a ≡ b
      inner_place e = cc

      got_within : (l : List P) (i : ℕ) (p : P) → slice_get l i ≡ Some p → i < length l
      got_within [] i p e = absurd (cc)
      got_within (x ∷ xs) zero p e = omega arith
      got_within (x ∷ xs) (suc i) p e = let t : i < length xs = got_within xs i p e in omega arith

      not_two : (s : State (Slot T P) (View T P N)) (r : IsKept good name s) (j : ℕ) → j < r.places → length r.held ≡ j + 1 → get_or s.words (j + 2) 0 ≢ 2
      not_two s r j inside tall' z = let l = ((rule_holds good name s r).each j inside).two z in omega (arith, l, tall')
