-- Lists whose members have keys: where a key stands, and what the member with a key gives.
use Rattle.std.specs.Prelude.{slice_index, slice_set, slice_get, Contains}
use Rattle.std.specs.List.{All, AllPairs, Any, list_any}
use Rattle.std.specs.List.Sorted.{IsStrictlyIncreasing, IsBinarySearchResult}
use Rattle.std.specs.Ordering.{nat_cmp}
use Rattle.std.proofs.Common.{◌≡◌, ◌≢◌, ℕ, zero, suc, ◌+◌, ◌<◌, ◌≤◌, ◌==◌, ◌⊎◌, Bool, true, false, List, [], ◌∷◌, Some, None, Result, Ok, Err, length, map, drop, option_map, refl, sym, ap, ◌∙◌, subst, arith, if◌then◌else◌, ⊎_elim}
use Rattle.std.proofs.lemmas.Bool.{ne_eqb, eq-eqb, eqb-true, eqb-false, cases_order, cases_lt}
use Rattle.std.proofs.lemmas.List.{get_or-set_same, get_or-set_other, get_or_default, drop_more}
use Rattle.std.proofs.lemmas.List.Folds.{list_any_at}
use Rattle.std.proofs.lemmas.List.Kept.{AllPairs-from_increasing}
use Rattle.std.proofs.lemmas.List.Sorted.{searched}
use Rattle.std.proofs.lemmas.Map.Keys.{non_decreasing_from_sorted, sorted_from_strictly_increasing}
use Rattle.std.proofs.lemmas.Option.{get_or_from_slice_get, slice_get-get_or, slice_get_within, slice_get-map}
use Rattle.std.proofs.Math.ListN.{get_or, set}
use Rattle.spur_loader.specs.Opening.{first_place_from, first_place}

-- ---- members by their positions

-- what holds of each member
pub all_get : {X : Type 0} (P : X → Type 0) (xs : List X) (i : ℕ) (x : X) → All P xs → slice_get xs i ≡ Some x → P x
all_get P xs i x all at = subst P (get_or_from_slice_get xs i x x at) (all i x (slice_get_within xs i x at))

-- a member with its position
pub record IsMember {X : Type 0} (P : X → Type 0) (xs : List X) : Type 0 where
  pub position : ℕ
  pub member : X
  pub at : slice_get xs position ≡ Some member
  pub holds : P member

pub any_get : {X : Type 0} (P : X → Type 0) (xs : List X) → Any P xs → IsMember P xs
any_get P xs any = record {
  position = any.0;
  member = any.1;
  at = slice_get-get_or xs any.0 any.1 any.2 ∙ ap Some any.3;
  holds = any.4;
}

-- what holds at each position
pub all_at : {X : Type 0} (P : X → Type 0) (xs : List X) → ((i : ℕ) (x : X) → slice_get xs i ≡ Some x → P x) → All P xs
all_at P xs each i d below = each i (get_or xs i d) (slice_get-get_or xs i d below)

-- what holds at one position
pub any_at : {X : Type 0} (P : X → Type 0) (xs : List X) (i : ℕ) (x : X) → slice_get xs i ≡ Some x → P x → Any P xs
any_at P xs i x at holds = (i, x, slice_get_within xs i x at, get_or_from_slice_get xs i x x at, holds)

-- where no member passes a test, this one does not
fails_by : {X : Type 0} (test : X → Bool) (xs : List X) (i : ℕ) (x : X) (b : Bool) → test x ≡ b → list_any test xs ≡ false → slice_get xs i ≡ Some x → b ≡ false
fails_by test xs i x true e none at =
    let t : list_any test xs ≡ true = list_any_at test xs i x (slice_get_within xs i x at) (ap test (get_or_from_slice_get xs i x x at) ∙ e) in
    let f : true ≡ false = sym t ∙ none in
    cc
fails_by test xs i x false e none at = refl

pub fails_at : {X : Type 0} (test : X → Bool) (xs : List X) (i : ℕ) (x : X) → list_any test xs ≡ false → slice_get xs i ≡ Some x → test x ≡ false
fails_at test xs i x none at = fails_by test xs i x (test x) refl none at

pub contains_get : {X : Type 0} (xs : List X) (x : X) → Contains xs x → IsMember (λ y. y ≡ x) xs
contains_get xs x c = record {
  position = c.0;
  member = x;
  at = slice_get-get_or xs c.0 x c.1 ∙ ap Some c.2;
  holds = refl;
}

pub get_contains : {X : Type 0} (xs : List X) (i : ℕ) (x : X) → slice_get xs i ≡ Some x → Contains xs x
get_contains xs i x at = (i, slice_get_within xs i x at, get_or_from_slice_get xs i x x at)

-- the member from which a member of a mapped list comes
pub record IsMapped {X : Type 0} (f : X → ℕ) (xs : List X) (i n : ℕ) : Type 0 where
  pub member : X
  pub at : slice_get xs i ≡ Some member
  pub is : f member ≡ n

pub map_get : {X : Type 0} (f : X → ℕ) (xs : List X) (i n : ℕ) → slice_get (map f xs) i ≡ Some n → IsMapped f xs i n
map_get f [] i n at = cc
map_get f (x ∷ xs) zero n at = record { member = x; at = refl; is = cc }
map_get f (x ∷ xs) (suc i) n at = let m = map_get f xs i n at in record { member = m.member; at = m.at; is = m.is }

-- ---- keys that differ

-- no two members have one key
pub record AreApart {X : Type 0} (key : X → ℕ) (xs : List X) : Type 0 where
  pub apart : (i j : ℕ) (x y : X) → slice_get xs i ≡ Some x → slice_get xs j ≡ Some y → key x ≡ key y → i ≡ j

pub apart_rest : {X : Type 0} (key : X → ℕ) (x : X) (xs : List X) → AreApart key (x ∷ xs) → AreApart key xs
apart_rest key x xs h = record {
  apart = λ i j a b p q e. let s : suc i ≡ suc j = h.apart (suc i) (suc j) a b p q e in omega arith;
}

pair_apart : {X : Type 0} (key : X → ℕ) (R : X → X → Type 0) → ((x y : X) → R x y → key x ≢ key y) → (xs : List X) → AllPairs R xs
    → (i j : ℕ) (x y : X) → slice_get xs i ≡ Some x → slice_get xs j ≡ Some y → i < j → key x ≢ key y
pair_apart key R differ xs pairs i j x y p q below e =
    let r : R (get_or xs i x) (get_or xs j x) = pairs i j x below (slice_get_within xs j y q) in
    let a : get_or xs i x ≡ x = get_or_from_slice_get xs i x x p in
    let b : get_or xs j x ≡ y = get_or_from_slice_get xs j y x q in
    differ _ _ r (ap key a ∙ e ∙ sym (ap key b))

pub apart_from_pairs : {X : Type 0} (key : X → ℕ) (R : X → X → Type 0) → ((x y : X) → R x y → key x ≢ key y) → (xs : List X) → AllPairs R xs → AreApart key xs
apart_from_pairs key R differ xs pairs = record {
  apart = λ i j x y p q e. ⊎_elim
      (λ (same : i ≡ j). same)
      (λ (other : (i < j) ⊎ (j < i)). ⊎_elim
      (λ (below : i < j). absurd (pair_apart key R differ xs pairs i j x y p q below e))
      (λ (above : j < i). absurd (pair_apart key R differ xs pairs j i y x q p above (sym e)))
      other)
      (cases_order i j);
}

pub apart_ascending : (xs : List ℕ) → IsStrictlyIncreasing xs → AreApart (λ x. x) xs
apart_ascending xs up = apart_from_pairs (λ x. x) (λ x y. x < y) (λ x y below same. omega arith) xs (AllPairs-from_increasing xs up)

pub apart_keys : {X : Type 0} (key : X → ℕ) (xs : List X) → AreApart key xs → AreApart (λ n. n) (map key xs)
apart_keys key xs h = record {
  apart = λ i j m n p q e. let a = map_get key xs i m p in let b = map_get key xs j n q in
      h.apart i j a.member b.member a.at b.at (a.is ∙ e ∙ sym b.is);
}

-- ---- what the last member with a key gives, by its position, which is counted from k

abbrev pub latest : {X : Type 0} → (X → ℕ) → (ℕ → X → ℕ) → ℕ → ℕ → List X → ℕ → ℕ
latest key value sofar k [] n = sofar
latest key value sofar k (x ∷ more) n = latest key value (if key x == n then value k x else sofar) (k + 1) more n

-- no member has the key
pub latest_absent : {X : Type 0} (key : X → ℕ) (value : ℕ → X → ℕ) (sofar k : ℕ) (xs : List X) (n : ℕ)
    → ((i : ℕ) (x : X) → slice_get xs i ≡ Some x → key x ≢ n) → latest key value sofar k xs n ≡ sofar
latest_absent key value sofar k [] n none = refl
latest_absent key value sofar k (x ∷ xs) n none =
    let f : (key x == n) ≡ false = ne_eqb (key x) n (none 0 x refl) in
    ap (λ (b : Bool). latest key value (if b then value k x else sofar) (k + 1) xs n) f
    ∙ latest_absent key value sofar (k + 1) xs n (λ i y e. none (suc i) y e)

-- the one member that has it
pub latest_at : {X : Type 0} (key : X → ℕ) (value : ℕ → X → ℕ) (sofar k : ℕ) (xs : List X) (i : ℕ) (x : X)
    → AreApart key xs → slice_get xs i ≡ Some x → latest key value sofar k xs (key x) ≡ value (k + i) x
latest_at key value sofar k [] i x apart at = cc
latest_at key value sofar k (y ∷ xs) zero x apart at =
    let same : y ≡ x = cc in
    let t : (key y == key x) ≡ true = eq-eqb (key y) (key x) (ap key same) in
    let n : k ≡ k + 0 = omega arith in
    ap (λ (b : Bool). latest key value (if b then value k y else sofar) (k + 1) xs (key x)) t
    ∙ latest_absent key value (value k y) (k + 1) xs (key x)
    (λ j z e s. let w : suc j ≡ zero = apart.apart (suc j) zero z y e refl (s ∙ ap key (sym same)) in omega arith)
    ∙ ap (λ z. value k z) same
    ∙ ap (λ (m : ℕ). value m x) n
latest_at key value sofar k (y ∷ xs) (suc i) x apart at =
    let f : (key y == key x) ≡ false = ne_eqb (key y) (key x) (λ s. let w : zero ≡ suc i = apart.apart zero (suc i) y x refl at s in omega arith) in
    let n : k + 1 + i ≡ k + suc i = omega arith in
    ap (λ (b : Bool). latest key value (if b then value k y else sofar) (k + 1) xs (key x)) f
    ∙ latest_at key value sofar (k + 1) xs i x (apart_rest key y xs apart) at
    ∙ ap (λ (m : ℕ). value m x) n

-- ---- the place of a number, counted from k

pub data Placed (k : ℕ) (xs : List ℕ) (n : ℕ) : Type 0 where
  Absent : first_place_from k xs n ≡ None → ((i : ℕ) → slice_get xs i ≡ Some n → ⊥) → Placed k xs n
  At : (i : ℕ) → first_place_from k xs n ≡ Some (k + i) → slice_get xs i ≡ Some n → Placed k xs n

not_there : (x : ℕ) (xs : List ℕ) (n : ℕ) → (x == n) ≡ false → ((i : ℕ) → slice_get xs i ≡ Some n → ⊥) → (i : ℕ) → slice_get (x ∷ xs) i ≡ Some n → ⊥
not_there x xs n other none zero at = eqb-false x n other cc
not_there x xs n other none (suc i) at = none i at

placed_by : (k x : ℕ) (xs : List ℕ) (n : ℕ) (b : Bool) → (x == n) ≡ b → Placed (k + 1) xs n → Placed k (x ∷ xs) n
placed_by k x xs n true e rest =
    let z : k ≡ k + 0 = omega arith in
    At 0 (ap (λ (b : Bool). if b then Some k else first_place_from (k + 1) xs n) e ∙ ap Some z) (ap Some (eqb-true x n e))
placed_by k x xs n false e (Absent none lacks) =
    Absent (ap (λ (b : Bool). if b then Some k else first_place_from (k + 1) xs n) e ∙ none) (not_there x xs n e lacks)
placed_by k x xs n false e (At i is there) =
    let z : k + 1 + i ≡ k + suc i = omega arith in
    At (suc i) (ap (λ (b : Bool). if b then Some k else first_place_from (k + 1) xs n) e ∙ is ∙ ap Some z) there

pub placed : (k : ℕ) (xs : List ℕ) (n : ℕ) → Placed k xs n
placed k [] n = Absent refl (λ i e. cc)
placed k (x ∷ xs) n = placed_by k x xs n (x == n) refl (placed (k + 1) xs n)

place_at_by : (xs : List ℕ) (i n : ℕ) → AreApart (λ x. x) xs → slice_get xs i ≡ Some n → Placed 0 xs n → first_place xs n ≡ Some i
place_at_by xs i n apart at (Absent none lacks) = absurd (lacks i at)
place_at_by xs i n apart at (At j is there) =
    let same : j ≡ i = apart.apart j i n n there at refl in
    let z : 0 + j ≡ i = omega arith in
    is ∙ ap Some z

pub place_at : (xs : List ℕ) (i n : ℕ) → AreApart (λ x. x) xs → slice_get xs i ≡ Some n → first_place xs n ≡ Some i
place_at xs i n apart at = place_at_by xs i n apart at (placed 0 xs n)

-- ---- a word that is written

-- what a write leaves at a place, where a test tells whether it is the place of the write
pub set_pick : (words : List ℕ) (at place value : ℕ) (b : Bool) → at < length words → (b ≡ true → place ≡ at) → (b ≡ false → place ≢ at)
    → slice_index (slice_set words at value) place ≡ (if b then value else slice_index words place)
set_pick words at place value true within same other =
    ap (λ (p : ℕ). get_or (set words at value) p 0) (same refl) ∙ get_or-set_same words at value 0 within
set_pick words at place value false within same other = get_or-set_other words at place value 0 (other refl)

-- ---- a search in ascending numbers

pub non_decreasing : (xs : List ℕ) → IsStrictlyIncreasing xs → (i j : ℕ) → i ≤ j → j < length xs → get_or xs i 0 ≤ get_or xs j 0
non_decreasing xs up i j le within = non_decreasing_from_sorted xs (sorted_from_strictly_increasing xs up) i j 0 le within

-- a number that is there is found where it stands
abbrev pub IsFound : List ℕ → ℕ → Result ℕ ℕ → Type 0
IsFound xs x (Ok i) = slice_get xs i ≡ Some x
IsFound xs x (Err i) = ⊥

pub search_finds : (xs : List ℕ) (x : ℕ) (r : Result ℕ ℕ) → IsStrictlyIncreasing xs → Contains xs x → IsBinarySearchResult (λ y. nat_cmp y x) xs r → IsFound xs x r
search_finds xs x (Ok i) up there answer =
    let s = searched xs x (Ok i) answer (non_decreasing xs up) in
    slice_get-get_or xs i 0 s.0 ∙ ap Some s.1
search_finds xs x (Err i) up there answer =
    let s = searched xs x (Err i) answer (non_decreasing xs up) in
    let is : get_or xs there.0 0 ≡ x = get_or_default xs there.0 0 x there.1 ∙ there.2 in
    ⊎_elim
    (λ (below : there.0 < i). let l : get_or xs there.0 0 < x = s.1 there.0 below in omega arith)
    (λ (above : i ≤ there.0). let l : x < get_or xs there.0 0 = s.2 there.0 above there.1 in omega arith)
    (cases_lt there.0 i)

-- what a member is mapped to is there
pub mapped_contains : {X : Type 0} (f : X → ℕ) (xs : List X) (i : ℕ) (x : X) → slice_get xs i ≡ Some x → Contains (map f xs) (f x)
mapped_contains f xs i x at = get_contains (map f xs) i (f x) (slice_get-map f xs i ∙ ap (option_map f) at)

-- the rest of a list from a member on
pub drop_at : {X : Type 0} (xs : List X) (i : ℕ) (x : X) → slice_get xs i ≡ Some x → drop i xs ≡ x ∷ drop (i + 1) xs
drop_at xs i x at =
    drop_more xs i x (slice_get_within xs i x at) ∙ ap (λ y. y ∷ drop (i + 1) xs) (get_or_from_slice_get xs i x x at)
