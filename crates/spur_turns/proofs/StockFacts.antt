-- Stocks: the values that a seat holds of the slots from 0 on, the last taken first.
use Rattle.std.proofs.Common.{◌≡◌, ◌≢◌, ℕ, zero, suc, ◌+◌, ◌<◌, Bool, cond, List, [], ◌∷◌, ◌++◌, length, sym, refl, ap, ◌∙◌, arith, Some, map, eq-eqb, ne_eqb}
use Rattle.std.specs.Prelude.{slice_get}
use mathlib.Core.Logic.{dite}
use native.Mathlib.Decide.{ℕ_discrete}
use Rattle.spur_turns.specs.declared.table.Item.TheVariants.{Bus, Place}
use Rattle.spur_turns.specs.Views.{Slot, held_at, numbered, stacked, stock_of}
use Rattle.spur_turns.proofs.ListFacts.{inner_some, none_some}

module _ {A : Type 0} where
  pub held_top : (y : A) (ys : List A) → held_at (y ∷ ys) (length ys) ≡ Some y
  held_top y ys = ap (λ (b : Bool). cond b (Some y) (held_at ys (length ys))) (eq-eqb (length ys) (length ys) refl)

  pub held_under : (y : A) (ys : List A) (k : ℕ) → k ≢ length ys → held_at (y ∷ ys) k ≡ held_at ys k
  held_under y ys k ne = ap (λ (b : Bool). cond b (Some y) (held_at ys k)) (ne_eqb k (length ys) ne)

  pub held_within : (ys : List A) (k : ℕ) (y : A) → held_at ys k ≡ Some y → k < length ys
  held_within [] k y e = absurd (none_some e)
  held_within (x ∷ xs) k y e = dite (ℕ_discrete k (length xs)) (λ q. omega arith) (λ ne. let h = held_within xs k y (sym (held_under x xs k ne) ∙ e) in omega arith)

  pub values_numbered : (ys : List A) → map (λ (z : ℕ × A). z.1) (numbered ys) ≡ ys
  values_numbered [] = refl
  values_numbered (y ∷ ys) = λ i. y ∷ values_numbered ys i

module _ {T P : Type 0} where
  pub stacked_long : (ps : List P) (ys : List (Slot T P)) → length (stacked ps ys) ≡ length ps + length ys
  stacked_long [] ys = omega arith
  stacked_long (p ∷ ps) ys = let e : length (stacked ps (Some (Place p) ∷ ys)) ≡ length ps + suc (length ys) = stacked_long ps (Some (Place p) ∷ ys) in omega arith

  pub stock_long : (t : T) (ps : List P) → length (stock_of t ps) ≡ length ps + 1
  stock_long t ps = stacked_long ps (Some (Bus t) ∷ [])

  pub stacked_snoc : (ps : List P) (p : P) (ys : List (Slot T P)) → stacked (ps ++ p ∷ []) ys ≡ Some (Place p) ∷ stacked ps ys
  stacked_snoc [] p ys = refl
  stacked_snoc (x ∷ ps) p ys = stacked_snoc ps p (Some (Place x) ∷ ys)

  pub stacked_old : (ps : List P) (ys : List (Slot T P)) (k : ℕ) → k < length ys → held_at (stacked ps ys) k ≡ held_at ys k
  stacked_old [] ys k h = refl
  stacked_old (p ∷ ps) ys k h = stacked_old ps (Some (Place p) ∷ ys) k (omega arith) ∙ held_under (Some (Place p)) ys k (λ q. omega arith)

  pub stacked_new : (ps : List P) (ys : List (Slot T P)) (i : ℕ) (p : P) (k : ℕ) → slice_get ps i ≡ Some p → k ≡ i + length ys → held_at (stacked ps ys) k ≡ Some (Some (Place p))
  stacked_new [] ys i p k e q = absurd (cc)
  stacked_new (x ∷ ps) ys zero p k e q = let at_k : k ≡ length ys = omega arith in
      ap (held_at (stacked ps (Some (Place x) ∷ ys))) at_k ∙ (stacked_old ps (Some (Place x) ∷ ys) (length ys) (omega arith) ∙ (held_top (Some (Place x)) ys ∙ ap (λ (z : P). Some (Some (Place z))) (inner_some e)))
  stacked_new (x ∷ ps) ys (suc i) p k e q = stacked_new ps (Some (Place x) ∷ ys) i p k e (omega arith)

  pub held_bus : (t : T) (ps : List P) → held_at (stock_of t ps) 0 ≡ Some (Some (Bus t))
  held_bus t ps = stacked_old ps (Some (Bus t) ∷ []) 0 (omega arith)

  pub held_place : (t : T) (ps : List P) (i : ℕ) (p : P) → slice_get ps i ≡ Some p → held_at (stock_of t ps) (i + 1) ≡ Some (Some (Place p))
  held_place t ps i p e = stacked_new ps (Some (Bus t) ∷ []) i p (i + 1) e refl
