-- Seats are numbered, also after the view of one changes, after one is split off seat 0, and after one is joined into it.
use Rattle.std.proofs.Common.{◌≡◌, ◌≢◌, ℕ, ◌+◌, ◌-◌, ◌<◌, Bool, true, false, List, [], ◌∷◌, ◌++◌, length, set, sym, refl, ap, ◌∙◌, subst, ⊎_elim, arith, None, length-set, length-append}
use mathlib.Core.Logic.{dite}
use mathlib.Core.Option.{some, some-injective}
use native.Mathlib.Decide.{ℕ_discrete}
use lib.ListN.{get_elem?}
use Rattle.atomic_table.proofs.Lists.{at_set, set_here, set_else, at_longer, at_last}
use Rattle.spur_turns.specs.declared.table.View.{View}
use Rattle.spur_turns.specs.Views.{new_view, spent_view}
use Rattle.spur_turns.specs.Rule.{IsFirst, SeatsAreNumbered}
use Rattle.spur_turns.proofs.ListFacts.{at_snoc_last, first_there, put, put_else, put_here, there_length}

pub not_both : (b : Bool) → b ≡ true → b ≡ false → ⊥
not_both b p q = cc

module _ {A : Type 0} where
  pub each_set : (K : ℕ → A → Type 0) (vs : List A) (id : ℕ) (w : A) → K id w → ((j : ℕ) (u : A) → j ≢ id → get_elem? vs j ≡ some u → K j u) → (j : ℕ) (u : A) → get_elem? (set vs id w) j ≡ some u → K j u
  each_set K vs id w mine others j u e = ⊎_elim (λ (t : (j ≡ id) × (w ≡ u)). subst (λ (x : ℕ × A). K x.0 x.1) (λ i. (sym t.0 i, t.1 i)) mine)
      (λ (t : (j ≢ id) × (get_elem? vs j ≡ some u)). others j u t.0 t.1) (at_set vs id j w u e)

  -- what holds of each old one, of the changed one and of the new one
  pub each_more : (K : ℕ → A → Type 0) (vs : List A) (id : ℕ) (w x : A) → K id w → ((j : ℕ) (u : A) → j ≢ id → get_elem? vs j ≡ some u → K j u) → K (length vs) x → (j : ℕ) (u : A) → get_elem? (set vs id w ++ x ∷ []) j ≡ some u → K j u
  each_more K vs id w x mine others new j u e = ⊎_elim (λ (t : get_elem? (set vs id w) j ≡ some u). each_set K vs id w mine others j u t)
      (λ (t : (j ≡ length (set vs id w)) × (x ≡ u)). subst (λ (z : ℕ × A). K z.0 z.1) (λ i. (sym (t.0 ∙ length-set vs id w) i, t.1 i)) new) (at_snoc_last (set vs id w) x u j e)

  pub each_fewer : (K : ℕ → A → Type 0) (vs : List A) (id other : ℕ) (w x : A) → K id w → ((j : ℕ) (u : A) → j ≢ id → j ≢ other → get_elem? vs j ≡ some u → K j u) → K other x → (j : ℕ) (u : A) → get_elem? (set (set vs id w) other x) j ≡ some u → K j u
  each_fewer K vs id other w x mine others gone = each_set K (set vs id w) other x gone (λ j u ne e. ⊎_elim (λ (t : (j ≡ id) × (w ≡ u)). subst (λ (z : ℕ × A). K z.0 z.1) (λ i. (sym t.0 i, t.1 i)) mine)
      (λ (t : (j ≢ id) × (get_elem? vs j ≡ some u)). others j u t.0 ne t.1) (at_set vs id j w u e))

  pub unless : (vs : List A) (id : ℕ) (v w u : A) (h : ℕ) → get_elem? vs id ≡ some v → get_elem? vs h ≡ some u → (u ≡ v → ⊥) → get_elem? (set vs id w) h ≡ some u
  unless vs id v w u h at at' differs = set_else vs id h w (λ q. differs (some-injective u v (sym at' ∙ (ap (get_elem? vs) q ∙ at)))) ∙ at'

module _ {T P N : Type 0} where
  pub is_first : (n : ℕ) (opened : Bool) (stands : ℕ → ℕ) (vs : List (View T P N)) (id : ℕ) (v : View T P N) → SeatsAreNumbered n opened stands vs → get_elem? vs id ≡ some v → v.live ≡ true → v.number ≡ 0 → id ≡ 0
  is_first n opened stands vs id v r at live number =
      let f : (f : View T P N) × (get_elem? vs 0 ≡ some f) = first_there vs r.some_view in
      let f_is = r.first f.0 f.1 in
      sym (r.live_number id v at live).1 ∙ (ap stands (number ∙ sym f_is.number) ∙ (r.live_number 0 f.0 f.1 f_is.live).1)

  pub as_first : (n : ℕ) (opened : Bool) (stands : ℕ → ℕ) (vs : List (View T P N)) (id : ℕ) (v : View T P N) → SeatsAreNumbered n opened stands vs → get_elem? vs id ≡ some v → v.live ≡ true → v.number ≡ 0 → IsFirst n opened v
  as_first n opened stands vs id v r at live number = r.first v (subst (λ (k : ℕ). get_elem? vs k ≡ some v) (is_first n opened stands vs id v r at live number) at)

  -- where one seat is live, it is the first
  pub lone : (n : ℕ) (opened : Bool) (stands : ℕ → ℕ) (vs : List (View T P N)) (id : ℕ) (v : View T P N) → SeatsAreNumbered n opened stands vs → n ≡ 1 → get_elem? vs id ≡ some v → v.live ≡ true → (v.number ≡ 0) × (id ≡ 0)
  lone n opened stands vs id v r one at live = let k = (r.live_number id v at live).0 in let number : v.number ≡ 0 = omega (arith, one, k) in (number, is_first n opened stands vs id v r at live number)

  -- where the view of one seat changes, and not its number
  pub numbered_set : (n : ℕ) (opened opened_after : Bool) (stands : ℕ → ℕ) (vs : List (View T P N)) (id : ℕ) (v w : View T P N) → SeatsAreNumbered n opened stands vs → get_elem? vs id ≡ some v → v.live ≡ true → w.live ≡ true → w.number ≡ v.number → w.seats ≡ v.seats
      → (id ≡ 0 → w.opened ≡ opened_after) → (id ≢ 0 → opened ≡ opened_after) → SeatsAreNumbered n opened_after stands (set vs id w)
  numbered_set n opened opened_after stands vs id v w r at live live' number count here else =
      let low : id < length vs = there_length vs id v at in record {
        some_view = subst (λ (k : ℕ). 0 < k) (sym (length-set vs id w)) r.some_view;
        first = λ f e. each_set (λ j u. j ≡ 0 → IsFirst n opened_after u) vs id w
            (λ z. let old = r.first v (subst (λ (k : ℕ). get_elem? vs k ≡ some v) z at) in record { live = live'; number = number ∙ old.number; seats_are = count ∙ old.seats_are; opened_is = here z })
            (λ j u ne e z. let old = r.first u (subst (λ (k : ℕ). get_elem? vs k ≡ some u) z e) in record { live = old.live; number = old.number; seats_are = old.seats_are; opened_is = old.opened_is ∙ else (λ q. ne (z ∙ sym q)) }) 0 f e refl;
        live_number = each_set (λ j u. u.live ≡ true → (u.number < n) × (stands u.number ≡ j)) vs id w (λ _. subst (λ (k : ℕ). (k < n) × (stands k ≡ id)) (sym number) (r.live_number id v at live)) (λ j u _ e. r.live_number j u e);
        number_live = λ i h. let t = r.number_live i h in dite (ℕ_discrete (stands i) id)
            (λ q. (w, subst (λ (k : ℕ). get_elem? (set vs id w) k ≡ some w) (sym q) (set_here vs id w low), live', number ∙ (ap (λ (u : View T P N). u.number) (some-injective v t.0 (sym at ∙ (ap (get_elem? vs) (sym q) ∙ t.1))) ∙ t.3)))
            (λ ne. (t.0, set_else vs id (stands i) w ne ∙ t.1, t.2, t.3));
        spent = each_set (λ j u. u.live ≡ false → (u.stock ≡ []) × (u.own ≡ None)) vs id w (λ z. absurd (not_both w.live live' z)) (λ j u _ e. r.spent j u e);
      }

  pub numbered_more : (n : ℕ) (opened : Bool) (stands : ℕ → ℕ) (vs : List (View T P N)) (v : View T P N) → SeatsAreNumbered n opened stands vs → get_elem? vs 0 ≡ some v → v.live ≡ true
      → SeatsAreNumbered (n + 1) opened (put stands n (length vs)) (set vs 0 (record v { seats = v.seats + 1 }) ++ new_view v ∷ [])
  numbered_more n opened stands vs v r at live =
      let f = r.first v at in
      let left : View T P N = record v { seats = v.seats + 1 } in
      let right : View T P N = new_view v in
      let long : length (set vs 0 left) ≡ length vs = length-set vs 0 left in
      let stands_after : ℕ → ℕ = put stands n (length vs) in
      let old : (j : ℕ) (u : View T P N) → get_elem? vs j ≡ some u → u.live ≡ true → (u.number < n + 1) × (stands_after u.number ≡ j) = λ j u e l. let k = r.live_number j u e l in let k0 = k.0 in (omega (arith, k0), put_else stands n (length vs) u.number (λ q. omega (arith, k0, q)) ∙ k.1) in record {
        some_view = let e = length-append (set vs 0 left) (right ∷ []) in omega (arith, e);
        first = λ g e. each_more (λ j u. j ≡ 0 → IsFirst (n + 1) opened u) vs 0 left right
            (λ _. record { live = live; number = f.number; seats_are = ap (λ (c : ℕ). c + 1) f.seats_are; opened_is = f.opened_is })
            (λ j u ne _ z. absurd (ne z)) (λ z. let t = r.some_view in absurd (omega (arith, z, t))) 0 g e refl;
        live_number = each_more (λ j u. u.live ≡ true → (u.number < n + 1) × (stands_after u.number ≡ j)) vs 0 left right (λ _. old 0 v at live) (λ j u _ e. old j u e)
            (λ _. let c = f.seats_are in (omega (arith, c), ap stands_after c ∙ put_here stands n (length vs)));
        number_live = λ i h. dite (ℕ_discrete i n)
            (λ q. (right, subst (λ (k : ℕ). get_elem? (set vs 0 left ++ right ∷ []) k ≡ some right) (sym (ap stands_after q ∙ put_here stands n (length vs))) (at_last (set vs 0 left) right (length vs) long), refl, f.seats_are ∙ sym q))
            (λ ne. let t = r.number_live i (omega (arith, h, ne)) in let same : stands_after i ≡ stands i = put_else stands n (length vs) i ne in dite (ℕ_discrete (stands i) 0)
            (λ q. (
              left,
              at_longer (set vs 0 left) (right ∷ []) (stands_after i) left (subst (λ (k : ℕ). get_elem? (set vs 0 left) k ≡ some left) (sym (same ∙ q)) (set_here vs 0 left r.some_view)),
              live,
              ap (λ (u : View T P N). u.number) (some-injective v t.0 (sym at ∙ (ap (get_elem? vs) (sym q) ∙ t.1))) ∙ t.3,
            ))
            (λ ne'. (t.0, at_longer (set vs 0 left) (right ∷ []) (stands_after i) t.0 (ap (get_elem? (set vs 0 left)) same ∙ (set_else vs 0 (stands i) left ne' ∙ t.1)), t.2, t.3)));
        spent = each_more (λ j u. u.live ≡ false → (u.stock ≡ []) × (u.own ≡ None)) vs 0 left right (λ z. absurd (not_both v.live live z)) (λ j u _ e. r.spent j u e) (λ z. absurd (not_both true refl z));
      }

  pub numbered_fewer : (n other : ℕ) (opened : Bool) (stands : ℕ → ℕ) (vs : List (View T P N)) (v w : View T P N) → SeatsAreNumbered n opened stands vs → get_elem? vs 0 ≡ some v → v.live ≡ true → get_elem? vs other ≡ some w → other ≢ 0 → w.live ≡ true → w.number + 1 ≡ v.seats
      → SeatsAreNumbered (n - 1) opened stands (set (set vs 0 (record v { seats = v.seats - 1; joined = w.name ∷ v.joined })) other spent_view)
  numbered_fewer n other opened stands vs v w r at live was differs live' last =
      let f = r.first v at in
      let both : View T P N = record v { seats = v.seats - 1; joined = w.name ∷ v.joined } in
      let gone : View T P N = spent_view in
      let c = f.seats_are in let z0 = f.number in
      let its = r.live_number other w was live' in
      let above : w.number ≢ 0 = λ q. differs (is_first n opened stands vs other w r was live' q) in record {
        some_view = let e = length-set vs 0 both in let e' = length-set (set vs 0 both) other gone in let t = r.some_view in omega (arith, e, e', t);
        first = λ g e. each_fewer (λ j u. j ≡ 0 → IsFirst (n - 1) opened u) vs 0 other both gone
            (λ _. record { live = live; number = f.number; seats_are = ap (λ (k : ℕ). k - 1) c; opened_is = f.opened_is })
            (λ j u ne _ _ z. absurd (ne z)) (λ z. absurd (differs z)) 0 g e refl;
        live_number = each_fewer (λ j u. u.live ≡ true → (u.number < n - 1) × (stands u.number ≡ j)) vs 0 other both gone
            (λ _. (omega (arith, c, last, above, z0), (r.live_number 0 v at live).1))
            (λ j u _ ne e l. let k = r.live_number j u e l in let k0 = k.0 in let apart : u.number ≢ w.number = λ q. ne (sym k.1 ∙ (ap stands q ∙ its.1)) in (omega (arith, k0, apart, c, last), k.1))
            (λ l. absurd (not_both false l refl));
        number_live = λ i h. let low : i < n = omega (arith, h) in let t = r.number_live i low in
            let away : stands i ≢ other = λ q. let number : t.0.number ≡ w.number = ap (λ (u : View T P N). u.number) (some-injective t.0 w (sym t.1 ∙ (ap (get_elem? vs) q ∙ was))) in let t3 = t.3 in omega (arith, number, t3, last, c, h) in dite (ℕ_discrete (stands i) 0)
            (λ q. (
              both,
              set_else (set vs 0 both) other (stands i) gone away ∙ subst (λ (k : ℕ). get_elem? (set vs 0 both) k ≡ some both) (sym q) (set_here vs 0 both r.some_view),
              live,
              ap (λ (u : View T P N). u.number) (some-injective v t.0 (sym at ∙ (ap (get_elem? vs) (sym q) ∙ t.1))) ∙ t.3,
            ))
            (λ ne. (t.0, set_else (set vs 0 both) other (stands i) gone away ∙ (set_else vs 0 (stands i) both ne ∙ t.1), t.2, t.3));
        spent = each_fewer (λ j u. u.live ≡ false → (u.stock ≡ []) × (u.own ≡ None)) vs 0 other both gone (λ z. absurd (not_both v.live live z)) (λ j u _ _ e. r.spent j u e) (λ _. (refl, refl));
      }
