-- The rule holds of a new table, and what lies in the slots when all seats are joined.
use mathlib.Core.Logic.{dite}
use mathlib.Core.Option.{some, some-injective, some-ne-none}
use native.Mathlib.Decide.{ℕ_discrete}
use lib.ListN.{get_elem?}
use Rattle.std.specs.Prelude.{slice_get}
use Rattle.std.specs.List.{AllByRecursion}
use Rattle.std.proofs.Common.{◌≡◌, ◌≢◌, ℕ, zero, suc, ◌+◌, ◌<◌, true, false, List, [], ◌∷◌, length, get_or, sym, refl, ap, ◌∙◌, subst, ⊎_elim, arith, Some, None, replicate}
use Rattle.atomic_table.specs.Table.{opening, Final, Seen}
use Rattle.spur_turns.specs.declared.table.View.{View}
use Rattle.spur_turns.specs.declared.table.Item.TheVariants.{Bus, Place}
use Rattle.spur_turns.specs.Views.{Slot, first_view}
use Rattle.spur_turns.specs.Rule.{IsFirst, IsKept}
use Rattle.spur_turns.specs.Seats.{AreLast}
use Rattle.spur_turns.proofs.ListFacts.{true_or_false, inner_some, none_some, all_home, homes_long}
use Rattle.spur_turns.proofs.NumberFacts.{not_both, as_first, lone}
use Rattle.spur_turns.proofs.HoldFacts.{OwnHeld}
use Rattle.spur_turns.proofs.RuleFacts.{kept, rule_holds, full_of, is_opened, zero_one, zero_two}

module _ {T P N : Type 0} (good : T → List P → Type 0) (name : T → N) where
  -- the rule holds of the table at the start: words of 0 and empty slots
  pub starts : (m : ℕ) (ws : List ℕ) → length ws ≡ m + 2 → ((q : ℕ) → get_or ws q 0 ≡ 0) → (IsKept good name) (opening ws (replicate (m + 1) None) first_view)
  starts m ws wide zeros = kept good name (opening ws (replicate (m + 1) None) first_view) record {
    seats = 1;
    places = m;
    opened = false;
    stands = λ _. 0;
    holder = 0;
    held = [];
    cur = λ _. None;
    roster = record {
      some_view = omega arith;
      first = λ f e. subst (IsFirst 1 false) (some-injective first_view f e) record { live = refl; number = refl; seats_are = refl; opened_is = refl };
      live_number = λ j v e l. only (λ i u. (u.number < 1) × (0 ≡ i)) (omega arith, refl) j v e;
      number_live = λ i h. (first_view, refl, refl, omega (arith, h));
      spent = only (λ i u. u.live ≡ false → (u.stock ≡ []) × (u.own ≡ None)) (λ l. absurd (not_both true refl l));
    };
    holds = record {
      wide = wide;
      deep = homes_long (m + 1) None;
      room = omega arith;
      stocked = only (λ i u. 0 < length u.stock → (i ≡ 0) × (u.stock ≡ [])) (λ l. (refl, refl));
      keeper = λ l. absurd (omega (arith, l));
      values = λ k y e. absurd (none_some e);
      bus = record { free = λ _. (refl, all_home (m + 1) 0 None (omega arith)); taken = λ ne. absurd (ne (zeros 0)) };
      each = λ i low. record {
        under = subst (λ (n : ℕ). n < 3) (sym (zeros (i + 2))) (omega arith);
        home = λ _. all_home (m + 1) (i + 1) None (omega (arith, low));
        two = λ z. absurd (zero_two (sym (zeros (i + 2)) ∙ z));
        held_two = λ l. absurd (omega (arith, l));
      };
      owned = λ j v p e. only (λ i u. u.own ≡ Some p → OwnHeld m ws (λ _. None) u p) (λ q. absurd (none_some q)) j v e;
      owner = λ i low z. absurd (zero_one (sym (zeros (i + 2)) ∙ z));
    };
    bare = λ _. record { alone = refl; empty = λ _ _. refl; nameless = λ f e. let q = some-injective first_view f e in (sym (ap (λ (u : View T P N). u.name) q), sym (ap (λ (u : View T P N). u.joined) q)) };
    full = λ opened. absurd (not_both false opened refl);
  }
    where
      only : (K : ℕ → View T P N → Type 0) → K 0 first_view → (j : ℕ) (v : View T P N) → get_elem? (first_view ∷ []) j ≡ some v → K j v
      only K k zero v e = subst (K 0) (some-injective first_view v e) k
      only K k (suc j) v e = absurd (some-ne-none v (sym e))

  got_in : (l : List P) (i : ℕ) (p : P) → slice_get l i ≡ Some p → i < length l
  got_in [] i p e = absurd (cc)
  got_in (x ∷ xs) zero p e = omega arith
  got_in (x ∷ xs) (suc i) p e = let t : i < length xs = got_in xs i p e in omega arith

  -- where all seats are joined into one that holds nothing, all is at home, and all of them knew the name
  pub closes : (id : ℕ) (v : View T P N) (x : N) (ws : List ℕ) (xs : List (Slot T P)) → v.live ≡ true → v.number ≡ 0 → v.stock ≡ [] → v.own ≡ None → v.name ≡ Some x → v.seats ≡ 1 → Final (Seen (IsKept good name) id v) ws xs → AreLast good name xs x × AllByRecursion (λ y. y ≡ Some x) v.joined
  closes id v x ws xs live number bare unowned named one final =
      let s = final.0 in let r = final.1.0 in let at = final.1.1 in
      let h = rule_holds good name s r in
      let f_is = as_first r.seats r.opened r.stands s.views id v r.seats_are_numbered at live number in
      let alone : r.seats ≡ 1 = sym f_is.seats_are ∙ one in
      let f = full_of good name s r (is_opened good name s r id v x at live named) in
      let none_mine : length v.stock ≡ 0 = ap (λ (l : List (Slot T P)). length l) bare in
      let is_v : (j : ℕ) (u : View T P N) → get_elem? s.views j ≡ some u → u.live ≡ true → u ≡ v = λ j u e l. some-injective u v (sym e ∙ (ap (get_elem? s.views) ((lone r.seats r.opened r.stands s.views j u r.seats_are_numbered alone e l).1 ∙ sym (lone r.seats r.opened r.stands s.views id v r.seats_are_numbered alone at live).1) ∙ at)) in
      let nobody : 0 < length r.held → ⊥ = λ some_held.
      let u = h.keeper some_held in
      let ulen : length u.0.stock ≡ length r.held = ap (λ (l : List (Slot T P)). length l) u.2 in
      ⊎_elim (λ (l : u.0.live ≡ true). let e : length u.0.stock ≡ length v.stock = ap (λ (z : View T P N). length z.stock) (is_v r.holder u.0 u.1 l) in omega (arith, e, ulen, some_held, none_mine))
      (λ (l : u.0.live ≡ false). let e : length u.0.stock ≡ 0 = ap (λ (z : List (Slot T P)). length z) (r.seats_are_numbered.spent r.holder u.0 u.1 l).0 in omega (arith, e, ulen, some_held)) (true_or_false u.0.live) in
      let free : get_or s.words 0 0 ≡ 0 = dite (ℕ_discrete (get_or s.words 0 0) 0) (λ e. e) (λ ne. absurd (nobody (h.bus.taken ne).1)) in
      let word : (i : ℕ) → i < r.places → get_or s.words (i + 2) 0 ≡ 0 = λ i low.
      let o = h.each i low in
      let under = o.under in
      let no_two : get_or s.words (i + 2) 0 ≢ 2 = λ z. let l = o.two z in nobody (omega (arith, l)) in
      let no_one : get_or s.words (i + 2) 0 ≢ 1 = λ z. let t = h.owner i low z in
      ⊎_elim (λ (l : t.0.live ≡ true). none_some (sym unowned ∙ (ap (λ (y : View T P N). y.own) (sym (is_v (r.stands i) t.0 t.2 l)) ∙ t.3))) (λ (l : t.0.live ≡ false). none_some (sym (r.seats_are_numbered.spent (r.stands i) t.0 t.2 l).1 ∙ t.3)) (true_or_false t.0.live) in
      omega (arith, under, no_two, no_one) in
      let many = f.many in let deep = h.deep in let same_length = final.3 in
      let same_name : name f.bus ≡ x = inner_some (sym ((f.knows id v at).own_name live) ∙ named) in (
        record {
          bus = f.bus;
          places = f.places;
          many = omega (arith, many, deep, same_length);
          is_good = f.is_good;
          named = same_name;
          bus_is = final.4 0 (Some (Bus f.bus)) ((h.bus.free free).1 ∙ ap (λ (y : Slot T P). some (some y)) f.bus_is);
          place_is = λ i p e. let low = got_in f.places i p e in let inside : i < r.places = omega (arith, many, low) in
              final.4 (i + 1) (Some (Place p)) ((h.each i inside).home (word i inside) ∙ ap (λ (y : Slot T P). some (some y)) (f.place_is i p e));
        },
        subst (λ (n : N). AllByRecursion (λ y. y ≡ Some n) v.joined) same_name ((f.knows id v at).joined_names live),
      )
