-- A seat is split off seat 0, and the seat of the greatest number is joined into it.
use mathlib.Core.Option.{some}
use lib.ListN.{get_elem?}
use Rattle.std.proofs.Common.{◌≡◌, ◌≢◌, ℕ, ◌+◌, ◌-◌, ◌<◌, true, false, List, [], ◌∷◌, ◌++◌, length, set, sym, refl, ap, ◌∙◌, subst, ⊎_elim, arith, Some, None}
use Rattle.atomic_table.specs.Table.{State, Splits, Joins}
use Rattle.atomic_table.proofs.Lists.{set_else, at_longer}
use Rattle.spur_turns.specs.declared.table.View.{View}
use Rattle.spur_turns.specs.Views.{Slot, spent_view, new_view, joined_view}
use Rattle.spur_turns.specs.Rule.{IsKept, KnowsName}
use Rattle.spur_turns.proofs.ListFacts.{true_or_false, none_some, put, put_else}
use Rattle.spur_turns.proofs.NumberFacts.{not_both, each_more, each_fewer, unless, is_first, numbered_more, numbered_fewer}
use Rattle.spur_turns.proofs.HoldFacts.{same_holds}
use Rattle.spur_turns.proofs.RuleFacts.{kept, rule_holds, full_of, is_opened}

module _ {T P N : Type 0} (good : T → List P → Type 0) (name : T → N) where
  -- one more seat is split off seat 0
  pub splits : (id : ℕ) (v : View T P N) (x : N) → v.live ≡ true → v.number ≡ 0 → v.stock ≡ [] → v.own ≡ None → v.name ≡ Some x → Splits (IsKept good name) id v (record v { seats = v.seats + 1 }) (new_view v)
  splits id v x live number bare unowned named s r at =
      let opened = is_opened good name s r id v x at live named in
      let f = full_of good name s r opened in
      let zero_is : id ≡ 0 = is_first r.seats r.opened r.stands s.views id v r.seats_are_numbered at live number in
      let at0 : get_elem? s.views 0 ≡ some v = subst (λ (k : ℕ). get_elem? s.views k ≡ some v) zero_is at in
      let left : View T P N = record v { seats = v.seats + 1 } in
      let right : View T P N = new_view v in
      let vs : List (View T P N) = set s.views 0 left ++ right ∷ [] in
      let stands_after : ℕ → ℕ = put r.stands r.seats (length s.views) in
      let none_mine : length v.stock ≡ 0 = ap (λ (l : List (Slot T P)). length l) bare in
      subst (λ (k : ℕ). IsKept good name record { words = s.words; homes = s.homes; views = set s.views k left ++ right ∷ [] }) (sym zero_is) (kept good name _ record {
        seats = r.seats + 1;
        places = r.places;
        opened = r.opened;
        stands = stands_after;
        holder = r.holder;
        held = r.held;
        cur = r.current;
        roster = numbered_more r.seats r.opened r.stands s.views v r.seats_are_numbered at0 live;
        holds = same_holds r.places s.words s.homes s.views vs r.stands stands_after r.holder r.held r.current (rule_holds good name s r)
            (λ j u e l. each_more (λ j u. 0 < length u.stock → get_elem? s.views j ≡ some u) s.views 0 left right (λ l. absurd (omega (arith, l, none_mine))) (λ j u _ e _. e) (λ l. absurd (omega (arith, l))) j u e l)
            (λ j u e l. at_longer (set s.views 0 left) (right ∷ []) j u (unless s.views 0 v left u j at0 e (λ q. let z : length u.stock ≡ length v.stock = ap (λ (y : View T P N). length y.stock) q in omega (arith, l, z, none_mine))))
            (λ j u p e q. each_more (λ j u. u.own ≡ Some p → get_elem? s.views j ≡ some u) s.views 0 left right (λ q. absurd (none_some (sym unowned ∙ q))) (λ j u _ e _. e) (λ q. absurd (none_some q)) j u e q)
            (λ i u p e q k. at_longer (set s.views 0 left) (right ∷ []) (stands_after i) u (ap (get_elem? (set s.views 0 left)) (put_else r.stands r.seats (length s.views) i (λ z. not_new s r (r.stands i) u p e q (k ∙ z)))
            ∙ unless s.views 0 v left u (r.stands i) at0 e (λ z. none_some (sym unowned ∙ (ap (λ (y : View T P N). y.own) (sym z) ∙ q)))));
        bare = λ unopened. absurd (not_both r.opened opened unopened);
        full = λ _. record {
          bus = f.bus;
          places = f.places;
          many = f.many;
          is_good = f.is_good;
          bus_is = f.bus_is;
          place_is = f.place_is;
          knows = let k = f.knows id v at in each_more (λ j u. KnowsName (name f.bus) u) s.views 0 left right
              record { own_name = k.own_name; joined_names = k.joined_names } (λ j u _ e. f.knows j u e)
              record { own_name = λ _. k.own_name live; joined_names = λ _. tt };
        };
      })
    where
      not_new : (s : State (Slot T P) (View T P N)) (r : IsKept good name s) (j : ℕ) (u : View T P N) (p : P) → get_elem? s.views j ≡ some u → u.own ≡ Some p → u.number ≢ r.seats
      not_new s r j u p e q z = ⊎_elim (λ (l : u.live ≡ true). let k = (r.seats_are_numbered.live_number j u e l).0 in omega (arith, k, z)) (λ (l : u.live ≡ false). none_some (sym (r.seats_are_numbered.spent j u e l).1 ∙ q)) (true_or_false u.live)

  -- the seat of the greatest number is joined into seat 0
  pub joins : (id other : ℕ) (v w : View T P N) (x : N) → v.live ≡ true → v.number ≡ 0 → v.stock ≡ [] → v.own ≡ None → v.name ≡ Some x → w.live ≡ true → w.stock ≡ [] → w.own ≡ None → w.number + 1 ≡ v.seats
      → Joins (IsKept good name) id v other w (joined_view v w) spent_view
  joins id other v w x live number bare unowned named live' bare' unowned' last s r at differs at' =
      let both : View T P N = joined_view v w in
      let gone : View T P N = spent_view in
      let opened = is_opened good name s r id v x at live named in
      let f = full_of good name s r opened in
      let was : get_elem? s.views other ≡ some w = sym (set_else s.views id other both differs) ∙ at' in
      let zero_is : id ≡ 0 = is_first r.seats r.opened r.stands s.views id v r.seats_are_numbered at live number in
      let at0 : get_elem? s.views 0 ≡ some v = subst (λ (k : ℕ). get_elem? s.views k ≡ some v) zero_is at in
      let away : other ≢ 0 = λ q. differs (q ∙ sym zero_is) in
      let vs : List (View T P N) = set (set s.views 0 both) other gone in
      let none_mine : length v.stock ≡ 0 = ap (λ (l : List (Slot T P)). length l) bare in
      let none_its : length w.stock ≡ 0 = ap (λ (l : List (Slot T P)). length l) bare' in
      let was0 : get_elem? (set s.views 0 both) other ≡ some w = set_else s.views 0 other both away ∙ was in
      let stays : (j : ℕ) (u : View T P N) → get_elem? s.views j ≡ some u → (u ≡ v → ⊥) → (u ≡ w → ⊥) → get_elem? vs j ≡ some u = λ j u e not_v not_w. unless (set s.views 0 both) other w gone u j was0 (unless s.views 0 v both u j at0 e not_v) not_w in
      subst (λ (k : ℕ). IsKept good name record { words = s.words; homes = s.homes; views = set (set s.views k both) other gone }) (sym zero_is) (kept good name _ record {
        seats = r.seats - 1;
        places = r.places;
        opened = r.opened;
        stands = r.stands;
        holder = r.holder;
        held = r.held;
        cur = r.current;
        roster = numbered_fewer r.seats other r.opened r.stands s.views v w r.seats_are_numbered at0 live was away live' last;
        holds = same_holds r.places s.words s.homes s.views vs r.stands r.stands r.holder r.held r.current (rule_holds good name s r)
            (λ j u e l. each_fewer (λ j u. 0 < length u.stock → get_elem? s.views j ≡ some u) s.views 0 other both gone (λ l. absurd (omega (arith, l, none_mine))) (λ j u _ _ e _. e) (λ l. absurd (omega (arith, l))) j u e l)
            (λ j u e l. stays j u e (λ q. let z : length u.stock ≡ length v.stock = ap (λ (y : View T P N). length y.stock) q in omega (arith, l, z, none_mine)) (λ q. let z : length u.stock ≡ length w.stock = ap (λ (y : View T P N). length y.stock) q in omega (arith, l, z, none_its)))
            (λ j u p e q. each_fewer (λ j u. u.own ≡ Some p → get_elem? s.views j ≡ some u) s.views 0 other both gone (λ q. absurd (none_some (sym unowned ∙ q))) (λ j u _ _ e _. e) (λ q. absurd (none_some q)) j u e q)
            (λ i u p e q k. stays (r.stands i) u e (λ z. none_some (sym unowned ∙ (ap (λ (y : View T P N). y.own) (sym z) ∙ q))) (λ z. none_some (sym unowned' ∙ (ap (λ (y : View T P N). y.own) (sym z) ∙ q))));
        bare = λ unopened. absurd (not_both r.opened opened unopened);
        full = λ _. record {
          bus = f.bus;
          places = f.places;
          many = f.many;
          is_good = f.is_good;
          bus_is = f.bus_is;
          place_is = f.place_is;
          knows = let k = f.knows id v at in let k' = f.knows other w was in each_fewer (λ j u. KnowsName (name f.bus) u) s.views 0 other both gone
              record { own_name = k.own_name; joined_names = λ l. (k'.own_name live', k.joined_names l) } (λ j u _ _ e. f.knows j u e)
              record { own_name = λ l. absurd (not_both false l refl); joined_names = λ l. absurd (not_both false l refl) };
        };
      })
