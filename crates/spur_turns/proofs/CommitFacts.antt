-- Who holds the bus and every place brings in new values, which become the current ones in one step.
use mathlib.Core.Option.{some}
use lib.ListN.{get_elem?}
use Rattle.std.specs.List.{AllByRecursion}
use Rattle.std.proofs.Common.{◌≡◌, ◌≢◌, ℕ, ◌+◌, ◌%◌, ◌<◌, true, List, [], length, get_or, set, sym, refl, ap, ◌∙◌, subst, arith, Option, Some, None, length-set, get_or-set_other, map}
use Rattle.atomic_table.specs.Table.{State, Step, keeps, Allows}
use Rattle.spur_turns.specs.declared.table.View.{View}
use Rattle.spur_turns.specs.Views.{Slot, held_at, stock_of}
use Rattle.spur_turns.specs.Rule.{IsKept, KnowsName}
use Rattle.spur_turns.specs.Kinds.{Seated, Committed, name_in, Opened}
use Rattle.spur_turns.proofs.ListFacts.{inner_some}
use Rattle.spur_turns.proofs.StockFacts.{stock_long, held_bus, held_place}
use Rattle.spur_turns.proofs.NumberFacts.{not_both, each_set, is_first, lone, numbered_set}
use Rattle.spur_turns.proofs.HoldFacts.{Holds, bus_holds}
use Rattle.spur_turns.proofs.RuleFacts.{kept, rule_holds, full_of, is_opened, is_unopened, knows_set, one_holder, zero_one, zero_two, one_two}

module _ {T P N : Type 0} (good : T → List P → Type 0) (name : T → N) where
  abbrev value_of : Option (Slot T P) → Slot T P
  value_of None = None
  value_of (Some y) = y

  -- who holds all brings in new values: what all of that leaves to say is the mark and the names
  all_in : (s : State (Slot T P) (View T P N)) (r : IsKept good name s) (id : ℕ) (v w : View T P N) (t : T) (ps : List P) → get_elem? s.views id ≡ some v → v.live ≡ true → v.own ≡ None → w.own ≡ None → length v.stock ≡ r.places + 1 → length ps ≡ r.places → w.stock ≡ stock_of t ps
      → Holds r.places (set s.words 1 ((get_or s.words 1 0 + 1) % 18446744073709551616)) s.homes (set s.views id w) r.stands id w.stock (λ n. value_of (held_at (stock_of t ps) n))
  all_in s r id v w t ps at live unowned unowned' whole many is =
      let h = rule_holds good name s r in
      let wide = h.wide in
      let ys : List (Slot T P) = stock_of t ps in
      let x : ℕ = (get_or s.words 1 0 + 1) % 18446744073709551616 in
      let some_mine : 0 < length v.stock = omega (arith, whole) in
      let held_is : v.stock ≡ r.held = (h.stocked id v at some_mine).1 in
      let held_tall : length r.held ≡ r.places + 1 = ap (λ (l : List (Slot T P)). length l) (sym held_is) ∙ whole in
      let tall : length w.stock ≡ r.places + 1 = ap (λ (l : List (Slot T P)). length l) is ∙ (stock_long t ps ∙ ap (λ (n : ℕ). n + 1) many) in
      let same : (n : ℕ) → n ≢ 1 → get_or (set s.words 1 x) n 0 ≡ get_or s.words n 0 = λ n ne. get_or-set_other s.words 1 n x 0 ne in
      let taken = h.bus.taken (λ z. let e = (h.bus.free z).0 in omega (arith, e, held_tall)) in
      let word : (i : ℕ) → i < r.places → get_or s.words (i + 2) 0 ≡ 2 = λ i low. (h.each i low).held_two (omega (arith, held_tall, low)) in
      bus_holds r.places s.words (set s.words 1 x) s.homes s.homes s.views r.stands r.holder r.held r.current (λ n. value_of (held_at ys n)) id v w h at unowned unowned'
      (one_holder good name s r id v at some_mine) (length-set s.words 1 x ∙ wide) h.deep (omega (arith, tall))
      (λ k y e. ap value_of (subst (λ (l : List (Slot T P)). held_at l k ≡ Some y) is e))
      record { free = λ z. absurd (zero_one (sym z ∙ (same 0 (λ q. omega arith) ∙ taken.0))); taken = λ _. (same 0 (λ q. omega arith) ∙ taken.0, omega (arith, tall)) }
      (λ i low. let two : get_or (set s.words 1 x) (i + 2) 0 ≡ 2 = same (i + 2) (λ q. omega arith) ∙ word i low in record {
        under = subst (λ (n : ℕ). n < 3) (sym two) (omega arith);
        home = λ z. absurd (zero_two (sym z ∙ two));
        two = λ _. omega (arith, tall, low);
        held_two = λ _. two;
      })
      (λ i low z. absurd (one_two (sym z ∙ word i low)))
      (λ i low z. absurd (one_two (sym z ∙ (same (i + 2) (λ q. omega arith) ∙ word i low))))

  -- who holds all commits what is in hand, which is good and has the name
  pub commits : (k id : ℕ) (me : Seated T P N) (t : T) (ps : List P) (x : N) (st : Step (Slot T P)) → me.0.live ≡ true → me.0.own ≡ None → length me.0.stock ≡ k → map (λ (z : ℕ × Slot T P). z.1) me.1 ≡ stock_of t ps → length ps + 1 ≡ k → good t ps → name t ≡ x → me.0.name ≡ Some x
      → Allows (IsKept good name) k id me 1 (λ n. (n + 1) % 18446744073709551616) (Committed st me)
  commits k id me t ps x st live unowned whole hand long fine is named s r slots at fits =
      let v : View T P N = me.0 in
      let deep = (rule_holds good name s r).deep in
      let many : length ps ≡ r.places = omega (arith, deep, slots, long) in
      let f = full_of good name s r (is_opened good name s r id v x at live named) in
      let same_name : name f.bus ≡ name t = inner_some (sym ((f.knows id v at).own_name live) ∙ named) ∙ sym is in
      let w : View T P N = record v { stock = map (λ z. z.1) me.1 } in (
        w,
        keeps,
        tt,
        kept good name _ record {
          seats = r.seats;
          places = r.places;
          opened = r.opened;
          stands = r.stands;
          holder = id;
          held = w.stock;
          cur = λ n. value_of (held_at (stock_of t ps) n);
          roster = numbered_set r.seats r.opened r.opened r.stands s.views id v w r.seats_are_numbered at live live refl refl (λ z. (r.seats_are_numbered.first v (subst (λ (n : ℕ). get_elem? s.views n ≡ some v) z at)).opened_is) (λ _. refl);
          holds = all_in s r id v w t ps at live unowned unowned (omega (arith, whole, deep, slots)) many hand;
          bare = λ unopened. absurd (not_both r.opened (is_opened good name s r id v x at live named) unopened);
          full = λ _. record {
            bus = t;
            places = ps;
            many = many;
            is_good = fine;
            bus_is = ap value_of (held_bus t ps);
            place_is = λ i p e. ap value_of (held_place t ps i p e);
            knows = knows_set (name t) s.views id v w at live refl refl (subst (λ (y : N). (j : ℕ) (u : View T P N) → get_elem? s.views j ≡ some u → KnowsName y u) same_name f.knows);
          };
        },
        record { view = refl; hand = refl },
      )

  -- the first values come in
  pub opens : (k id : ℕ) (me : Seated T P N) (t : T) (ps : List P) (st : Step (Slot T P)) → me.0.live ≡ true → me.0.number ≡ 0 → me.0.own ≡ None → length me.0.stock ≡ k → map (λ (z : ℕ × Slot T P). z.1) me.1 ≡ stock_of t ps → length ps + 1 ≡ k → good t ps → me.0.name ≡ None
      → Allows (IsKept good name) k id me 1 (λ n. (n + 1) % 18446744073709551616) (Opened name st me)
  opens k id me t ps st live number unowned whole hand long fine unnamed s r slots at fits =
      let v : View T P N = me.0 in
      let deep = (rule_holds good name s r).deep in
      let many : length ps ≡ r.places = omega (arith, deep, slots, long) in
      let bare = r.values_are_empty (is_unopened good name s r id v at live unnamed) in
      let zero_is : id ≡ 0 = is_first r.seats r.opened r.stands s.views id v r.seats_are_numbered at live number in
      let none_joined : v.joined ≡ [] = (bare.nameless v (subst (λ (k : ℕ). get_elem? s.views k ≡ some v) zero_is at)).1 in
      let w : View T P N = record v { opened = true; name = name_in name (held_at (map (λ z. z.1) me.1) 0); stock = map (λ z. z.1) me.1 } in
      let named : w.name ≡ Some (name t) = ap (name_in name) (ap (λ (l : List (Slot T P)). held_at l 0) hand ∙ held_bus t ps) in (
        w,
        keeps,
        tt,
        kept good name _ record {
          seats = r.seats;
          places = r.places;
          opened = true;
          stands = r.stands;
          holder = id;
          held = w.stock;
          cur = λ n. value_of (held_at (stock_of t ps) n);
          roster = numbered_set r.seats r.opened true r.stands s.views id v w r.seats_are_numbered at live live refl refl (λ _. refl) (λ ne. absurd (ne zero_is));
          holds = all_in s r id v w t ps at live unowned unowned (omega (arith, whole, deep, slots)) many hand;
          bare = λ unopened. absurd (not_both true refl unopened);
          full = λ _. record {
            bus = t;
            places = ps;
            many = many;
            is_good = fine;
            bus_is = ap value_of (held_bus t ps);
            place_is = λ i p e. ap value_of (held_place t ps i p e);
            knows = each_set (λ j u. KnowsName (name t) u) s.views id w
                record { own_name = λ _. named; joined_names = λ _. subst (λ (l : List (Option N)). AllByRecursion (λ y. y ≡ Some (name t)) l) (sym none_joined) tt }
                (λ j u other e. let gone : u.live ≡ true → ⊥ = λ l. other ((lone r.seats r.opened r.stands s.views j u r.seats_are_numbered bare.alone e l).1 ∙ sym zero_is) in
                record { own_name = λ l. absurd (gone l); joined_names = λ l. absurd (gone l) });
          };
        },
        record { view = refl; hand = refl },
      )
