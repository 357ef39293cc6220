-- What was taken for the bus goes back, the last place first and the bus at the end.
use mathlib.Core.Logic.{dite}
use mathlib.Core.Option.{some}
use native.Mathlib.Decide.{ℕ_discrete}
use Rattle.std.proofs.Common.{◌≡◌, ◌≢◌, ℕ, ◌+◌, ◌<◌, true, List, ◌∷◌, length, get_or, set, sym, refl, ap, ◌∙◌, subst, arith, Some, None, length-set, get_or-set_other, get_or-set_same}
use Rattle.atomic_table.specs.Table.{Step, gives, Allows}
use Rattle.atomic_table.proofs.Lists.{set_here, set_else}
use Rattle.spur_turns.specs.declared.table.View.{View}
use Rattle.spur_turns.specs.Views.{Slot, held_at, under_top}
use Rattle.spur_turns.specs.Rule.{IsKept}
use Rattle.spur_turns.specs.Kinds.{Seated, GaveBack}
use Rattle.spur_turns.proofs.StockFacts.{held_top, held_under, held_within}
use Rattle.spur_turns.proofs.HoldFacts.{PlaceHeld, bus_holds}
use Rattle.spur_turns.proofs.RuleFacts.{rule_holds, keeps_rule, one_holder, zero_one, zero_two, one_two}

module _ {T P N : Type 0} (good : T → List P → Type 0) (name : T → N) where
  -- what was taken last goes home, as it was taken or as it was Committed
  gives_place_it : (k id j : ℕ) (v : View T P N) (y : Slot T P) (ys : List (Slot T P)) (tl : List (ℕ × Slot T P)) (st : Step (Slot T P)) → v.live ≡ true → v.own ≡ None → v.stock ≡ y ∷ ys → length ys ≡ j + 1
      → Allows (IsKept good name) k id (v, (j + 1, y) ∷ tl) (j + 2) (λ _. 0) (λ _. GaveBack st (v, (j + 1, y) ∷ tl) 0)
  gives_place_it k id j v y ys tl st live unowned is tall s r slots at fits =
      let h = rule_holds good name s r in
      let deep = h.deep in let wide = h.wide in
      let long : length v.stock ≡ length (y ∷ ys) = ap (λ (l : List (Slot T P)). length l) is in
      let some_mine : 0 < length v.stock = omega (arith, long) in
      let held_is : r.held ≡ y ∷ ys = sym (h.stocked id v at some_mine).1 ∙ is in
      let held_tall : length r.held ≡ j + 2 = let e : length r.held ≡ length (y ∷ ys) = ap (λ (l : List (Slot T P)). length l) held_is in omega (arith, e, tall) in
      let room = h.room in
      let inside : j < r.places = omega (arith, held_tall, room) in
      let w : View T P N = record v { stock = under_top v.stock } in
      let left : w.stock ≡ ys = ap under_top is in
      let left_tall : length w.stock ≡ j + 1 = ap (λ (l : List (Slot T P)). length l) left ∙ tall in
      let free : get_or (set s.words (j + 2) 0) (j + 2) 0 ≡ 0 = get_or-set_same s.words (j + 2) 0 0 (omega (arith, wide, inside)) in
      let same : (q : ℕ) → q ≢ j + 2 → get_or (set s.words (j + 2) 0) q 0 ≡ get_or s.words q 0 = λ q ne. get_or-set_other s.words (j + 2) q 0 0 ne in
      let was : get_or s.words (j + 2) 0 ≡ 2 = (h.each j inside).held_two (omega (arith, held_tall)) in
      let value : r.current (j + 1) ≡ y = h.values (j + 1) y (ap (λ (l : List (Slot T P)). held_at l (j + 1)) held_is ∙ (ap (held_at (y ∷ ys)) (sym tall) ∙ held_top y ys)) in (
        w,
        gives,
        tt,
        keeps_rule good name s r id v w (set s.words (j + 2) 0) (set s.homes (j + 1) (some y)) id w.stock at live live refl refl refl refl refl
            (bus_holds r.places s.words (set s.words (j + 2) 0) s.homes (set s.homes (j + 1) (some y)) s.views r.stands r.holder r.held r.current r.current id v w h at unowned unowned
            (one_holder good name s r id v at some_mine) (length-set s.words (j + 2) 0 ∙ wide) (length-set s.homes (j + 1) (some y) ∙ deep) (omega (arith, left_tall, inside))
            (λ i z e. let e' : held_at ys i ≡ Some z = subst (λ (l : List (Slot T P)). held_at l i ≡ Some z) left e in let low = held_within ys i z e' in
            h.values i z (ap (λ (l : List (Slot T P)). held_at l i) held_is ∙ (held_under y ys i (λ q. omega (arith, low, q)) ∙ e')))
            (let o = h.bus in let taken = o.taken (λ z. let e = (o.free z).0 in omega (arith, e, held_tall)) in record {
              free = λ z. let e = (o.free (sym (same 0 (λ q. omega arith)) ∙ z)).0 in absurd (omega (arith, e, held_tall));
              taken = λ _. (same 0 (λ q. omega arith) ∙ taken.0, omega (arith, left_tall));
            })
            (λ i low. dite (ℕ_discrete i j)
            (λ q. subst (PlaceHeld (set s.words (j + 2) 0) (set s.homes (j + 1) (some y)) w.stock r.current) (sym q) record {
              under = subst (λ (n : ℕ). n < 3) (sym free) (omega arith);
              home = λ _. set_here s.homes (j + 1) (some y) (omega (arith, deep, inside)) ∙ ap (λ (z : Slot T P). some (some z)) (sym value);
              two = λ z. absurd (zero_two (sym free ∙ z));
              held_two = λ l. absurd (omega (arith, l, left_tall));
            })
            (λ ne. let o = h.each i low in let word : get_or (set s.words (j + 2) 0) (i + 2) 0 ≡ get_or s.words (i + 2) 0 = same (i + 2) (λ q. ne (omega arith)) in record {
              under = subst (λ (n : ℕ). n < 3) (sym word) o.under;
              home = λ z. set_else s.homes (j + 1) (i + 1) (some y) (λ q. ne (omega arith)) ∙ o.home (sym word ∙ z);
              two = λ z. let l = o.two (sym word ∙ z) in omega (arith, l, held_tall, left_tall, ne);
              held_two = λ l. word ∙ o.held_two (omega (arith, l, held_tall, left_tall));
            }))
            (λ i low z. (same (i + 2) (λ q. one_two (sym z ∙ (ap (λ (n : ℕ). get_or s.words n 0) q ∙ was))) ∙ z, refl))
            (λ i low z. dite (ℕ_discrete i j) (λ q. absurd (zero_one (sym free ∙ (ap (λ (n : ℕ). get_or (set s.words (j + 2) 0) (n + 2) 0) (sym q) ∙ z)))) (λ ne. sym (same (i + 2) (λ q. ne (omega arith))) ∙ z))),
        record { view = refl; hand = refl },
      )

  gives_bus_it : (k id : ℕ) (v : View T P N) (y : Slot T P) (ys : List (Slot T P)) (tl : List (ℕ × Slot T P)) (st : Step (Slot T P)) → v.live ≡ true → v.own ≡ None → v.stock ≡ y ∷ ys → length ys ≡ 0
      → Allows (IsKept good name) k id (v, (0, y) ∷ tl) 0 (λ _. 0) (λ _. GaveBack st (v, (0, y) ∷ tl) 0)
  gives_bus_it k id v y ys tl st live unowned is tall s r slots at fits =
      let h = rule_holds good name s r in
      let deep = h.deep in let wide = h.wide in
      let long : length v.stock ≡ length (y ∷ ys) = ap (λ (l : List (Slot T P)). length l) is in
      let some_mine : 0 < length v.stock = omega (arith, long) in
      let held_is : r.held ≡ y ∷ ys = sym (h.stocked id v at some_mine).1 ∙ is in
      let held_tall : length r.held ≡ 1 = let e : length r.held ≡ length (y ∷ ys) = ap (λ (l : List (Slot T P)). length l) held_is in omega (arith, e, tall) in
      let w : View T P N = record v { stock = under_top v.stock } in
      let left_tall : length w.stock ≡ 0 = ap (λ (l : List (Slot T P)). length (under_top l)) is ∙ tall in
      let free : get_or (set s.words 0 0) 0 0 ≡ 0 = get_or-set_same s.words 0 0 0 (omega (arith, wide)) in
      let same : (i : ℕ) → get_or (set s.words 0 0) (i + 2) 0 ≡ get_or s.words (i + 2) 0 = λ i. get_or-set_other s.words 0 (i + 2) 0 0 (λ q. omega arith) in
      let value : r.current 0 ≡ y = h.values 0 y (ap (λ (l : List (Slot T P)). held_at l 0) held_is ∙ (ap (held_at (y ∷ ys)) (sym tall) ∙ held_top y ys)) in (
        w,
        gives,
        tt,
        keeps_rule good name s r id v w (set s.words 0 0) (set s.homes 0 (some y)) id w.stock at live live refl refl refl refl refl
            (bus_holds r.places s.words (set s.words 0 0) s.homes (set s.homes 0 (some y)) s.views r.stands r.holder r.held r.current r.current id v w h at unowned unowned
            (one_holder good name s r id v at some_mine) (length-set s.words 0 0 ∙ wide) (length-set s.homes 0 (some y) ∙ deep) (omega (arith, left_tall))
            (λ i z e. let low = held_within w.stock i z e in absurd (omega (arith, low, left_tall)))
            record {
              free = λ _. (left_tall, set_here s.homes 0 (some y) (omega (arith, deep)) ∙ ap (λ (z : Slot T P). some (some z)) (sym value));
              taken = λ ne. absurd (ne free);
            }
            (λ i low. let o = h.each i low in record {
              under = subst (λ (n : ℕ). n < 3) (sym (same i)) o.under;
              home = λ z. set_else s.homes 0 (i + 1) (some y) (λ q. omega arith) ∙ o.home (sym (same i) ∙ z);
              two = λ z. let l = o.two (sym (same i) ∙ z) in absurd (omega (arith, l, held_tall));
              held_two = λ l. absurd (omega (arith, l, left_tall));
            })
            (λ i low z. (same i ∙ z, refl)) (λ i low z. sym (same i) ∙ z)),
        record { view = refl; hand = refl },
      )

  pub gives_place : (k id j : ℕ) (me : Seated T P N) (y : Slot T P) (ys : List (Slot T P)) (tl : List (ℕ × Slot T P)) (st : Step (Slot T P)) → me.0.live ≡ true → me.0.own ≡ None → me.0.stock ≡ y ∷ ys → length ys ≡ j + 1 → me.1 ≡ (j + 1, y) ∷ tl
      → Allows (IsKept good name) k id me (j + 2) (λ _. 0) (λ _. GaveBack st me 0)
  gives_place k id j me y ys tl st live unowned is tall hand = subst (λ (m : Seated T P N). Allows (IsKept good name) k id m (j + 2) (λ _. 0) (λ _. GaveBack st m 0)) (λ i. (me.0, sym hand i)) (gives_place_it k id j me.0 y ys tl st live unowned is tall)

  pub gives_bus : (k id : ℕ) (me : Seated T P N) (y : Slot T P) (ys : List (Slot T P)) (tl : List (ℕ × Slot T P)) (st : Step (Slot T P)) → me.0.live ≡ true → me.0.own ≡ None → me.0.stock ≡ y ∷ ys → length ys ≡ 0 → me.1 ≡ (0, y) ∷ tl
      → Allows (IsKept good name) k id me 0 (λ _. 0) (λ _. GaveBack st me 0)
  gives_bus k id me y ys tl st live unowned is tall hand = subst (λ (m : Seated T P N). Allows (IsKept good name) k id m 0 (λ _. 0) (λ _. GaveBack st m 0)) (λ i. (me.0, sym hand i)) (gives_bus_it k id me.0 y ys tl st live unowned is tall)
