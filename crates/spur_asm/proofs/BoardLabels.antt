-- The labels of one board among those of a whole text.
use Rattle.std.proofs.Common.{◌≡◌, ◌≢◌, ℕ, zero, suc, ◌⊎◌, inl, inr, Bool, true, false, ◌==◌, if◌then◌else◌, List, [], ◌∷◌, ◌++◌, map, Option, Some, None, refl, sym, ap, ◌∙◌, arith}
use Rattle.std.specs.Prelude.{⊤}
use Rattle.std.specs.List.{AllByRecursion, AllPairs, Contains}
use Rattle.std.specs.Str.{bytes_eq}
use Rattle.std.proofs.lemmas.Bool.{eq-eqb, or_parts, false_from_ne_true}
use Rattle.std.proofs.lemmas.List.Elements.{All-from_recursion, recursion_from_All}
use Rattle.std.proofs.lemmas.List.{append_assoc, append-nil}
use Rattle.std.proofs.lemmas.List.Kept.{AllPairs-cons}
use Rattle.std.proofs.lemmas.Slice.Eq.{bytes_eq-Decides}
use Rattle.spur_asm.specs.Section.{Named}
use Rattle.spur_asm.specs.Context.{Placed, is_label, has_label, place_named}

-- the label as one of board n
abbrev pub at_board : ℕ → Named → Placed
at_board n l = record { board = n; name = l.name; place = l.place }

abbrev pub all_at : ℕ → List Named → List Placed
all_at n ls = map (at_board n) ls

-- labels of other boards
abbrev pub AreOthers : ℕ → List Placed → Type 0
AreOthers n ls = AllByRecursion (λ l. (l.board == n) ≡ false) ls

-- ---- pairs, by recursion

abbrev pub Pairwise : {X : Type 0} → (X → X → Type 0) → List X → Type 0
Pairwise R [] = ⊤
Pairwise R (x ∷ xs) = AllByRecursion (R x) xs × Pairwise R xs

pub pairs_from_pairwise : {X : Type 0} (R : X → X → Type 0) (xs : List X) → Pairwise R xs → AllPairs R xs
pairs_from_pairwise R [] h = λ i j d lt within. absurd (omega arith)
pairs_from_pairwise R (x ∷ xs) h = AllPairs-cons R x xs (All-from_recursion (R x) xs h.0) (pairs_from_pairwise R xs h.1)

pub pairwise_from_pairs : {X : Type 0} (R : X → X → Type 0) (xs : List X) → AllPairs R xs → Pairwise R xs
pairwise_from_pairs R [] h = tt
pairwise_from_pairs R (x ∷ xs) h =
    (recursion_from_All (R x) xs (λ k d lt. h 0 (suc k) d (omega arith) (omega arith)), pairwise_from_pairs R xs (λ i j d lt within. h (suc i) (suc j) d (omega arith) (omega arith)))

-- the names differ
abbrev pub Differ : Named → Named → Type 0
Differ one other = one.name ≢ other.name

-- none before has the name of one of these
abbrev pub AreFresh : List Named → List Named → Type 0
AreFresh seen [] = ⊤
AreFresh seen (l ∷ ls) = AllByRecursion (λ s. Differ s l) seen × AreFresh (seen ++ (l ∷ [])) ls

all_push : {X : Type 0} (P : X → Type 0) (xs : List X) (y : X) → AllByRecursion P xs → P y → AllByRecursion P (xs ++ (y ∷ []))
all_push P [] y h p = (p, tt)
all_push P (x ∷ xs) y h p = (h.0, all_push P xs y h.1 p)

all_last : {X : Type 0} (P : X → Type 0) (xs : List X) (y : X) → AllByRecursion P (xs ++ (y ∷ [])) → AllByRecursion P xs × P y
all_last P [] y h = (tt, h.0)
all_last P (x ∷ xs) y h = (let more = all_last P xs y h.1 in ((h.0, more.0), more.1))

pairwise_push : (xs : List Named) (y : Named) → Pairwise Differ xs → AllByRecursion (λ s. Differ s y) xs → Pairwise Differ (xs ++ (y ∷ []))
pairwise_push [] y h apart = (tt, tt)
pairwise_push (x ∷ xs) y h apart = (all_push (Differ x) xs y h.0 apart.0, pairwise_push xs y h.1 apart.1)

pairwise_last : (xs : List Named) (y : Named) → Pairwise Differ (xs ++ (y ∷ [])) → Pairwise Differ xs × AllByRecursion (λ s. Differ s y) xs
pairwise_last [] y h = (tt, tt)
pairwise_last (x ∷ xs) y h =
    let first = all_last (Differ x) xs y h.0 in
    let more = pairwise_last xs y h.1 in
    ((first.0, more.0), (first.1, more.1))

fresh_pairwise : (seen ls : List Named) → Pairwise Differ seen → AreFresh seen ls → Pairwise Differ (seen ++ ls)
fresh_pairwise seen [] h fresh = rw append-nil h
fresh_pairwise seen (l ∷ ls) h fresh =
    let more = fresh_pairwise (seen ++ (l ∷ [])) ls (pairwise_push seen l h fresh.0) fresh.1 in
    rw append_assoc at more

pairwise_fresh : (seen ls : List Named) → Pairwise Differ (seen ++ ls) → Pairwise Differ seen × AreFresh seen ls
pairwise_fresh seen [] h = (rw append-nil at h, tt)
pairwise_fresh seen (l ∷ ls) h =
    let more = pairwise_fresh (seen ++ (l ∷ [])) ls (rw append_assoc h) in
    let parts = pairwise_last seen l more.0 in
    (parts.0, (parts.1, more.1))

-- no label is there twice exactly where none is there before
pub once_if_fresh : (ls : List Named) → AreFresh [] ls → AllPairs Differ ls
once_if_fresh ls fresh = pairs_from_pairwise Differ ls (fresh_pairwise [] ls tt fresh)

pub fresh_if_once : (ls : List Named) → AllPairs Differ ls → AreFresh [] ls
fresh_if_once ls once = (pairwise_fresh [] ls (pairwise_from_pairs Differ ls once)).1

-- ---- a label is one of this board

other_label : (n : ℕ) (name : List ℕ) (l : Placed) → (l.board == n) ≡ false → is_label n name l ≡ false
other_label n name l e = rw e refl

own_label : (n : ℕ) (name : List ℕ) (l : Named) → is_label n name (at_board n l) ≡ bytes_eq l.name name
own_label n name l = rw (eq-eqb n n refl) refl

same_bytes : (xs ys : List ℕ) → bytes_eq xs ys ≡ true → xs ≡ ys
same_bytes xs ys e = (bytes_eq-Decides xs ys).0 e

bytes_same : (xs ys : List ℕ) → xs ≡ ys → bytes_eq xs ys ≡ true
bytes_same xs ys e = (bytes_eq-Decides xs ys).1 e

other_bytes : (xs ys : List ℕ) → xs ≢ ys → bytes_eq xs ys ≡ false
other_bytes xs ys apart = false_from_ne_true (bytes_eq xs ys) (λ e. apart (same_bytes xs ys e))

apart_bytes : (xs ys : List ℕ) → bytes_eq xs ys ≡ false → xs ≢ ys
apart_bytes xs ys e same = (let f = bytes_same xs ys same in absurd cc)

-- ---- whether a label is among those of this board

pub has_behind_others : (n : ℕ) (name : List ℕ) (ls more : List Placed) → AreOthers n ls → has_label (ls ++ more) n name ≡ has_label more n name
has_behind_others n name [] more h = refl
has_behind_others n name (l ∷ ls) more h = rw (other_label n name l h.0) (has_behind_others n name ls more h.1)

pub none_has : (n : ℕ) (name : List ℕ) (seen : List Named) → AllByRecursion (λ s. s.name ≢ name) seen → has_label (all_at n seen) n name ≡ false
none_has n name [] h = refl
none_has n name (s ∷ seen) h = rw (own_label n name s, other_bytes s.name name h.0) (none_has n name seen h.1)

pub all_apart : (n : ℕ) (name : List ℕ) (seen : List Named) → has_label (all_at n seen) n name ≡ false → AllByRecursion (λ s. s.name ≢ name) seen
all_apart n name [] e = tt
all_apart n name (s ∷ seen) e =
    let parts = or_parts (is_label n name (at_board n s)) (has_label (all_at n seen) n name) e in
    (apart_bytes s.name name (sym (own_label n name s) ∙ parts.0), all_apart n name seen parts.1)

-- ---- the place of a label

pub place_behind_others : (n : ℕ) (name : List ℕ) (ls more : List Placed) → AreOthers n ls → place_named (ls ++ more) n name ≡ place_named more n name
place_behind_others n name [] more h = refl
place_behind_others n name (l ∷ ls) more h = rw (other_label n name l h.0) (place_behind_others n name ls more h.1)

no_place : (n : ℕ) (name : List ℕ) (ls : List Placed) → AreOthers n ls → place_named ls n name ≡ None
no_place n name [] h = refl
no_place n name (l ∷ ls) h = rw (other_label n name l h.0) (no_place n name ls h.1)

-- one of these labels, by recursion
abbrev pub HasNamed : List Named → List ℕ → ℕ → Type 0
HasNamed [] name place = ⊥
HasNamed (l ∷ ls) name place = ((l.name ≡ name) × (l.place ≡ place)) ⊎ HasNamed ls name place

place_at : (n : ℕ) (name : List ℕ) (l : Named) (others : Option ℕ) (place : ℕ) (b : Bool) → is_label n name (at_board n l) ≡ b → (if b then Some l.place else others) ≡ Some place
    → ((l.name ≡ name) × (l.place ≡ place)) ⊎ (others ≡ Some place)
place_at n name l others place true e h = inl (same_bytes l.name name (sym (own_label n name l) ∙ e), cc)
place_at n name l others place false e h = inr h

-- the place that is found is one of a label of this name
pub found_named : (n : ℕ) (name : List ℕ) (ls : List Named) (after : List Placed) (place : ℕ) → AreOthers n after → place_named (all_at n ls ++ after) n name ≡ Some place → HasNamed ls name place
found_named n name [] after place others e = (let none = no_place n name after others in absurd cc)
found_named n name (l ∷ ls) after place others e =
    elim (place_at n name l (place_named (all_at n ls ++ after) n name) place (is_label n name (at_board n l)) refl e) [
      | inl here ↦ inl here
      | inr there ↦ inr (found_named n name ls after place others there)
    ]

not_named : (l : Named) (ls : List Named) (name : List ℕ) (place : ℕ) → AllByRecursion (Differ l) ls → HasNamed ls name place → l.name ≢ name
not_named l [] name place apart h same = absurd h
not_named l (m ∷ ls) name place apart h same = elim h [
  | inl here ↦ apart.0 (same ∙ sym here.0)
  | inr there ↦ not_named l ls name place apart.1 there same
]

-- a label that is there once is found
pub named_found : (n : ℕ) (name : List ℕ) (ls : List Named) (after : List Placed) (place : ℕ) → Pairwise Differ ls → HasNamed ls name place → place_named (all_at n ls ++ after) n name ≡ Some place
named_found n name [] after place once h = absurd h
named_found n name (l ∷ ls) after place once h = elim h [
  | inl here ↦ rw (own_label n name l, bytes_same l.name name here.0) (ap (λ (p : ℕ). Some p) here.1)
  | inr there ↦ rw (own_label n name l, other_bytes l.name name (not_named l ls name place once.0 there)) (named_found n name ls after place once.1 there)
]

-- ---- the same as `Contains`

pub named_from_contains : (ls : List Named) (name : List ℕ) (place : ℕ) → Contains ls (record { name = name; place = place }) → HasNamed ls name place
named_from_contains [] name place (k, lt, at) = absurd (omega arith)
named_from_contains (l ∷ ls) name place (zero, lt, at) = inl (ap (λ (x : Named). x.name) at, ap (λ (x : Named). x.place) at)
named_from_contains (l ∷ ls) name place (suc k, lt, at) = inr (named_from_contains ls name place (k, (omega arith), at))

pub contains_from_named : (ls : List Named) (name : List ℕ) (place : ℕ) → HasNamed ls name place → Contains ls (record { name = name; place = place })
contains_from_named [] name place h = absurd h
contains_from_named (l ∷ ls) name place h = elim h [
  | inl here ↦ (0, (omega arith), (λ k. record { name = here.0 k; place = here.1 k }))
  | inr there ↦ (let c = contains_from_named ls name place there in (suc c.0, (let lt = c.1 in omega arith), c.2))
]
