-- The table of labels: what it has is the first label of a board with a name.
use Rattle.std.proofs.Common.{◌≡◌, ◌∙◌, refl, sym, ap, ℕ, zero, suc, ◌+◌, ◌-◌, ◌<◌, ◌≤◌, Bool, true, false, nat_lt, ◌||◌, ◌&&◌, ◌==◌, cond, List, [], ◌∷◌, map, take, drop, length, get_or, Option, Some, None, IfSome, arith}
use Rattle.std.proofs.lemmas.Bool.Decides.{nat_tests}
use Rattle.std.proofs.lemmas.List.{drop_more}
use Rattle.std.proofs.lemmas.Map.Text.{is_eq-slice_cmp}
use Rattle.std.specs.Cmp.{unsigned_ties}
use Rattle.std.specs.Cmp.Lexicographic.{slice_cmp}
use Rattle.std.specs.Ordering.{is_eq, nat_cmp, ordering_then}
use Rattle.std.specs.Str.{bytes_eq}
use Rattle.std.specs.declared.cmp.Ordering.{Ordering}
use Rattle.std.specs.declared.cmp.Ordering.TheVariants.{Less, Equal, Greater}
use Rattle.std.specs.List.{list_any, position_from}
use Rattle.spur_asm.specs.Context.{Placed, is_label, place_named, placed_of}
use Rattle.spur_asm.specs.declared.label.Label as labels

-- ---- labels before a line

abbrev pub is_below : ℕ → Option ℕ → Bool
is_below n None = false
is_below n (Some k) = nat_lt k n

below_none : {X : Type 0} (p : X → Bool) (i : ℕ) (xs : List X) → is_below i (position_from p i xs) ≡ false
below_none p i [] = refl
below_none p i (x ∷ xs) = by (p x) (below_none p (i + 1) xs)
  where
    less : (o : Option ℕ) → is_below (i + 1) o ≡ false → is_below i o ≡ false
    less None e = refl
    less (Some k) e = grind (arith, nat_tests)

    by : (t : Bool) → is_below (i + 1) (position_from p (i + 1) xs) ≡ false → is_below i (cond t (Some i) (position_from p (i + 1) xs)) ≡ false
    by true e = grind (arith, nat_tests)
    by false e = less (position_from p (i + 1) xs) e

before_from : {X : Type 0} (p : X → Bool) (i n : ℕ) (xs : List X) → is_below (i + n) (position_from p i xs) ≡ list_any p (take n xs)
before_from p i zero xs = ap (λ (k : ℕ). is_below k (position_from p i xs)) (omega arith) ∙ below_none p i xs
before_from p i (suc n) [] = refl
before_from p i (suc n) (x ∷ xs) = by (p x) (before_from p (i + 1) n xs)
  where
    here : nat_lt i (i + suc n) ≡ true
    here = grind (arith, nat_tests)

    by : (t : Bool) → is_below (i + 1 + n) (position_from p (i + 1) xs) ≡ list_any p (take n xs) → is_below (i + suc n) (cond t (Some i) (position_from p (i + 1) xs)) ≡ (t || list_any p (take n xs))
    by true e = here
    by false e = ap (λ (k : ℕ). is_below k (position_from p (i + 1) xs)) (omega arith) ∙ e

-- the number that is found is below n exactly where one of the first n passes
pub any_before : {X : Type 0} (p : X → Bool) (n : ℕ) (xs : List X) → is_below n (position_from p 0 xs) ≡ list_any p (take n xs)
any_before p n xs = ap (λ (k : ℕ). is_below k (position_from p 0 xs)) (omega arith) ∙ before_from p 0 n xs

-- ---- the place of a label

within_from : {X : Type 0} (p : X → Bool) (i : ℕ) (xs : List X) → IfSome (position_from p i xs) (λ k. k < i + length xs)
within_from p i [] = tt
within_from p i (x ∷ xs) = by (p x) (within_from p (i + 1) xs)
  where
    next : (o : Option ℕ) → IfSome o (λ k. k < i + 1 + length xs) → IfSome o (λ k. k < i + suc (length xs))
    next None e = tt
    next (Some k) e = omega (arith, e)

    by : (t : Bool) → IfSome (position_from p (i + 1) xs) (λ k. k < i + 1 + length xs) → IfSome (cond t (Some i) (position_from p (i + 1) xs)) (λ k. k < i + suc (length xs))
    by true e = omega arith
    by false e = next (position_from p (i + 1) xs) e

-- the number that is found is the number of one of them
pub number_within : {X : Type 0} (p : X → Bool) (xs : List X) (o : Option ℕ) → o ≡ position_from p 0 xs → IfSome o (λ k. k < length xs)
number_within p xs o e = same o (rw e (within_from p 0 xs))
  where
    same : (o : Option ℕ) → IfSome o (λ k. k < 0 + length xs) → IfSome o (λ k. k < length xs)
    same None e = tt
    same (Some k) e = omega (arith, e)

-- what a label's number tells of its place, where the labels are numbered from i
abbrev Leads : ℕ → List labels.Label → Option ℕ → Option ℕ → Type 0
Leads i all None place = place ≡ None
Leads i all (Some k) place = (i ≤ k) × ((d : labels.Label) → place ≡ Some (get_or all (k - i) d).place)

leads_from : (board : ℕ) (name : List ℕ) (i : ℕ) (all : List labels.Label) → Leads i all (position_from (is_label board name) i (map placed_of all)) (place_named (map placed_of all) board name)
leads_from board name i [] = refl
leads_from board name i (l ∷ all) = by (is_label board name (placed_of l)) (leads_from board name (i + 1) all)
  where
    rest : List Placed
    rest = map placed_of all

    next : (o : Option ℕ) → Leads (i + 1) all o (place_named rest board name) → Leads i (l ∷ all) o (place_named rest board name)
    next None e = e
    next (Some k) e =
        let low : i + 1 ≤ k = e.0 in
        let more : k - i ≡ suc (k - (i + 1)) = omega (arith, low) in
        (omega (arith, low), λ d. e.1 d ∙ ap (λ (n : ℕ). Some (get_or (l ∷ all) n d).place) (sym more))

    by : (t : Bool) → Leads (i + 1) all (position_from (is_label board name) (i + 1) rest) (place_named rest board name)
        → Leads i (l ∷ all) (cond t (Some i) (position_from (is_label board name) (i + 1) rest)) (cond t (Some l.place) (place_named rest board name))
    by true e =
        let none : i - i ≡ 0 = omega arith in
        (omega arith, λ d. ap (λ (n : ℕ). Some (get_or (l ∷ all) n d).place) (sym none))
    by false e = next (position_from (is_label board name) (i + 1) rest) e

none_from : (board : ℕ) (name : List ℕ) (i : ℕ) (all : List Placed) → position_from (is_label board name) i all ≡ None → place_named all board name ≡ None
none_from board name i [] e = refl
none_from board name i (l ∷ all) e = by (is_label board name l) (none_from board name (i + 1) all) e
  where
    by : (t : Bool) → (position_from (is_label board name) (i + 1) all ≡ None → place_named all board name ≡ None)
        → cond t (Some i) (position_from (is_label board name) (i + 1) all) ≡ None → cond t (Some l.place) (place_named all board name) ≡ None
    by true f e = absurd cc
    by false f e = f e

pub none_named : (board : ℕ) (name : List ℕ) (all : List Placed) → position_from (is_label board name) 0 all ≡ None → place_named all board name ≡ None
none_named board name all e = none_from board name 0 all e

pub place_at : (board : ℕ) (name : List ℕ) (all : List labels.Label) (k : ℕ) (d : labels.Label) → position_from (is_label board name) 0 (map placed_of all) ≡ Some k
    → place_named (map placed_of all) board name ≡ Some (get_or all k d).place
place_at board name all k d e = at (position_from (is_label board name) 0 (map placed_of all)) e (leads_from board name 0 all)
  where
    at : (o : Option ℕ) → o ≡ Some k → Leads 0 all o (place_named (map placed_of all) board name) → place_named (map placed_of all) board name ≡ Some (get_or all k d).place
    at None e l = absurd cc
    at (Some n) e l =
        let same : n ≡ k = cc in
        let none : n - 0 ≡ k = omega (arith, same) in
        l.1 d ∙ ap (λ (m : ℕ). Some (get_or all m d).place) none

-- ---- the table with one label more

eq_then : (a b : Ordering) → is_eq (ordering_then a b) ≡ (is_eq a && is_eq b)
eq_then Less b = refl
eq_then Equal b = refl
eq_then Greater b = refl

-- two keys compare equal exactly where they have one board and one name
pub same_key : (a b : ℕ) (one other : List ℕ) → is_eq (ordering_then (nat_cmp a b) (slice_cmp nat_cmp one other)) ≡ (a == b && bytes_eq one other)
same_key a b one other = eq_then (nat_cmp a b) (slice_cmp nat_cmp one other) ∙ ap (λ (t : Bool). t && is_eq (slice_cmp nat_cmp one other)) (sym (unsigned_ties a b)) ∙ ap (λ (t : Bool). a == b && t) (is_eq-slice_cmp one other)

-- the labels from number n on, where those behind it are found
pub one_more : (board : ℕ) (name : List ℕ) (all : List labels.Label) (n : ℕ) (d : labels.Label) → n < length all → (behind : Option ℕ)
    → behind ≡ position_from (is_label board name) (n + 1) (map placed_of (drop (n + 1) all))
    → cond (is_eq (ordering_then (nat_cmp (get_or all n d).board board) (slice_cmp nat_cmp (get_or all n d).name.now name))) (Some n) behind ≡ position_from (is_label board name) n (map placed_of (drop n all))
one_more board name all n d low behind is =
    ap (λ (t : Bool). cond t (Some n) behind) (same_key (get_or all n d).board board (get_or all n d).name.now name)
    ∙ ap (λ (o : Option ℕ). cond (is_label board name (placed_of (get_or all n d))) (Some n) o) is
    ∙ ap (λ (ls : List labels.Label). position_from (is_label board name) n (map placed_of ls)) (sym (drop_more all n d low))
