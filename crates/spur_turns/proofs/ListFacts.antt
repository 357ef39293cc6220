-- Lists that are read by an index, and functions that are changed at one number.
use Rattle.std.proofs.Common.{◌≡◌, ◌≢◌, ◌⊎◌, ℕ, zero, suc, ◌<◌, ◌≤◌, Bool, true, false, eqb, cond, List, [], ◌∷◌, ◌++◌, length, get_or, set, sym, refl, ap, ⊎_elim, inl, inr, arith, Some, None, map, replicate, take, eq-eqb, ne_eqb}
use Rattle.std.specs.Prelude.{slice_get}
use mathlib.Core.Option.{some, some-injective, some-ne-none}
use lib.ListN.{get_elem?}

pub true_or_false : (b : Bool) → (b ≡ true) ⊎ (b ≡ false)
true_or_false true = inl refl
true_or_false false = inr refl

module _ {A : Type 0} where
  pub inner_some : {a b : A} → Some a ≡ Some b → a ≡ b
  inner_some e = cc

  pub none_some : {a : A} → None ≡ Some a → ⊥
  none_some e = cc

  pub there_length : (l : List A) (i : ℕ) (a : A) → get_elem? l i ≡ some a → i < length l
  there_length [] i a e = absurd (some-ne-none a (sym e))
  there_length (x ∷ xs) zero a e = omega arith
  there_length (x ∷ xs) (suc i) a e = let h : i < length xs = there_length xs i a e in omega arith

  pub first_there : (vs : List A) → 0 < length vs → (f : A) × (get_elem? vs 0 ≡ some f)
  first_there [] h = absurd (omega arith)
  first_there (y ∷ ys) h = (y, refl)

  pub got_there : (l : List A) (i : ℕ) → i < length l → (a : A) × (slice_get l i ≡ Some a)
  got_there [] i h = absurd (omega arith)
  got_there (x ∷ xs) zero h = (x, refl)
  got_there (x ∷ xs) (suc i) h = got_there xs i (omega arith)

  pub got_set : (l : List A) (i j : ℕ) (a b : A) → slice_get (set l i a) j ≡ Some b → ((j ≡ i) × (a ≡ b)) ⊎ ((j ≢ i) × (slice_get l j ≡ Some b))
  got_set [] i j a b e = absurd (cc)
  got_set (x ∷ xs) zero zero a b e = inl (refl, cc)
  got_set (x ∷ xs) zero (suc j) a b e = inr ((λ h. omega arith), e)
  got_set (x ∷ xs) (suc i) zero a b e = inr ((λ h. omega arith), e)
  got_set (x ∷ xs) (suc i) (suc j) a b e = ⊎_elim (λ t. inl (ap suc t.0, t.1)) (λ t. let n = t.0 in inr ((λ h. n (omega arith)), t.1)) (got_set xs i j a b e)

  pub at_snoc_last : (l : List A) (a b : A) (j : ℕ) → get_elem? (l ++ a ∷ []) j ≡ some b → (get_elem? l j ≡ some b) ⊎ ((j ≡ length l) × (a ≡ b))
  at_snoc_last [] a b zero e = inr (refl, some-injective a b e)
  at_snoc_last [] a b (suc j) e = absurd (some-ne-none b (sym e))
  at_snoc_last (x ∷ xs) a b zero e = inl e
  at_snoc_last (x ∷ xs) a b (suc j) e = ⊎_elim (λ t. inl t) (λ t. inr (let q = t.0 in omega arith, t.1)) (at_snoc_last xs a b j e)

  pub same_list : (xs ys : List A) → length xs ≡ length ys → ((i : ℕ) (a : A) → slice_get xs i ≡ Some a → slice_get ys i ≡ Some a) → xs ≡ ys
  same_list [] [] l f = refl
  same_list [] (y ∷ ys) l f = absurd (omega arith)
  same_list (x ∷ xs) [] l f = absurd (omega arith)
  same_list (x ∷ xs) (y ∷ ys) l f = let h : y ≡ x = inner_some (f 0 x refl) in let t : xs ≡ ys = same_list xs ys (omega arith) (λ i a e. f (suc i) a e) in λ i. sym h i ∷ t i

  abbrev pub put : (ℕ → A) → ℕ → A → ℕ → A
  put f i x j = cond (eqb j i) x (f j)

  pub put_here : (f : ℕ → A) (i : ℕ) (x : A) → put f i x i ≡ x
  put_here f i x = ap (λ (b : Bool). cond b x (f i)) (eq-eqb i i refl)

  pub put_else : (f : ℕ → A) (i : ℕ) (x : A) (j : ℕ) → j ≢ i → put f i x j ≡ f j
  put_else f i x j ne = ap (λ (b : Bool). cond b x (f j)) (ne_eqb j i ne)

  pub all_home : (c k : ℕ) (x : A) → k < c → get_elem? (map some (replicate c x)) k ≡ some (some x)
  all_home zero k x h = absurd (omega arith)
  all_home (suc c) zero x h = refl
  all_home (suc c) (suc k) x h = all_home c k x (omega arith)

  pub homes_long : (c : ℕ) (x : A) → length (map some (replicate c x)) ≡ c
  homes_long zero x = refl
  homes_long (suc c) x = ap suc (homes_long c x)

pub zero_replicate : (n q : ℕ) → ◌≡◌ {A = ℕ} (get_or (replicate n 0) q 0) 0
zero_replicate zero q = refl
zero_replicate (suc n) zero = refl
zero_replicate (suc n) (suc q) = zero_replicate n q

pub zero_take : (n : ℕ) (l : List ℕ) → ((q : ℕ) → get_or l q 0 ≡ 0) → (q : ℕ) → get_or (take n l) q 0 ≡ 0
zero_take zero l h q = refl
zero_take (suc n) [] h q = refl
zero_take (suc n) (x ∷ l) h zero = h 0
zero_take (suc n) (x ∷ l) h (suc q) = zero_take n l (λ q. h (suc q)) q

pub long_take : {A : Type 0} (n : ℕ) (l : List A) → n ≤ length l → length (take n l) ≡ n
long_take zero l h = refl
long_take (suc n) [] h = absurd (omega arith)
long_take (suc n) (x ∷ l) h = ap suc (long_take n l (omega arith))
