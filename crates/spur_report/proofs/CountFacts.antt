-- The counts of a history, one entry after another.
use Rattle.std.proofs.Common.{◌≡◌, ◌∙◌, ℕ, zero, suc, ◌+◌, ◌<◌, ◌≤◌, ◌==◌, Bool, true, false, if◌then◌else◌, List, [], ◌∷◌, ◌++◌, length, Option, Some, refl, sym, ap, arith}
use Rattle.std.proofs.lemmas.Option.{slice_get_within}
use Rattle.std.specs.Prelude.{filter, map, slice_get, slice_index, slice_index_or, slice_set, take}
use Rattle.std.proofs.lemmas.List.Sums.{sum_by_from}
use Rattle.std.proofs.lemmas.List.{take_more, length-take-le}
use Rattle.std.specs.List.{sum_by}
use Rattle.spur_flat.specs.declared.access.FaultKind.TheVariants as fault
use Rattle.spur_flat.specs.declared.entry.Entry.{Entry}
use Rattle.spur_flat.specs.declared.entry.Entry.TheVariants.{Load, Store, Tas, Fault, Fill, Claim, WriteBack, Refresh, BlockFlush, Leave, PageOut, PageIn, SetRef, SetDirty, ClearRef}
use Rattle.spur_report.specs.Counts.{Count, CountsAddUp, OneCount, all_counts, counts_of, number_of, row_of}

-- a count with one more entry at the end
abbrev counted : Bool → ℕ → ℕ
counted passes n = if passes then suc n else n

more_at_end : (p : Entry → Bool) (es : List Entry) (e : Entry) → length (filter p (es ++ e ∷ [])) ≡ counted (p e) (length (filter p es))
more_at_end p [] e = by (p e)
  where
    by : (b : Bool) → length (if b then e ∷ [] else []) ≡ counted b 0
    by true = refl
    by false = refl
more_at_end p (x ∷ es) e = by (p x) (p e) (more_at_end p es e)
  where
    by : (b c : Bool) → length (filter p (es ++ e ∷ [])) ≡ counted c (length (filter p es))
        → length (if b then x ∷ filter p (es ++ e ∷ []) else filter p (es ++ e ∷ [])) ≡ counted c (length (if b then x ∷ filter p es else filter p es))
    by true true h = ap suc h
    by true false h = ap suc h
    by false c h = h

map_same : (f g : Count → ℕ) → ((c : Count) → f c ≡ g c) → (cs : List Count) → map f cs ≡ map g cs
map_same f g same [] = refl
map_same f g same (c ∷ cs) = λ k. same c k ∷ map_same f g same cs k

-- the place of the entry is raised, and no other
raised : (es : List Entry) (e : Entry) → map (λ c. counted (c.test e) (number_of es c)) all_counts ≡ slice_set (counts_of es) (row_of e) (suc (slice_index (counts_of es) (row_of e)))
raised es (Load board at value) = refl
raised es (Store board at value) = refl
raised es (Tas board at old) = refl
raised es (Fault board fault.Align access at) = refl
raised es (Fault board fault.Unmapped access at) = refl
raised es (Fault board fault.Missing access at) = refl
raised es (Fault board fault.Leaving access at) = refl
raised es (Fault board fault.Protection access at) = refl
raised es (Fault board fault.Reference access at) = refl
raised es (Fault board fault.Dirty access at) = refl
raised es (Fill board layer need at) = refl
raised es (Claim board at) = refl
raised es (WriteBack board at) = refl
raised es (Refresh board at) = refl
raised es (BlockFlush board holder at) = refl
raised es (Leave board at) = refl
raised es (PageOut board at) = refl
raised es (PageIn board at frame) = refl
raised es (SetRef board at) = refl
raised es (SetDirty board at) = refl
raised es (ClearRef board at) = refl

pub counts_more : (es : List Entry) (e : Entry) → counts_of (es ++ e ∷ []) ≡ slice_set (counts_of es) (row_of e) (suc (slice_index (counts_of es) (row_of e)))
counts_more es e = map_same (number_of (es ++ e ∷ [])) (λ c. counted (c.test e) (number_of es c)) (λ c. more_at_end c.test es e) all_counts ∙ raised es e

-- ---- each entry is counted once

-- the places from k on, so many of them
abbrev places : ℕ → ℕ → List ℕ
places k zero = []
places k (suc n) = k ∷ places (suc k) n

place_at : (k n i : ℕ) → i < n → slice_get (places k n) i ≡ Some (k + i)
place_at k zero i within = absurd (omega arith)
place_at k (suc n) zero within = (let same : k ≡ k + 0 = omega arith in ap (λ (q : ℕ). Some q) same)
place_at k (suc n) (suc i) within =
    let same : suc k + i ≡ k + suc i = omega arith in
    place_at (suc k) n i (omega arith) ∙ ap (λ (q : ℕ). Some q) same

abbrev is_at : ℕ → ℕ → Bool
is_at r place = place == r

-- an entry passes the test at its place, and no other
hot : (e : Entry) → map (λ c. c.test e) all_counts ≡ map (is_at (row_of e)) (places 0 21)
hot (Load board at value) = refl
hot (Store board at value) = refl
hot (Tas board at old) = refl
hot (Fault board fault.Align access at) = refl
hot (Fault board fault.Unmapped access at) = refl
hot (Fault board fault.Missing access at) = refl
hot (Fault board fault.Leaving access at) = refl
hot (Fault board fault.Protection access at) = refl
hot (Fault board fault.Reference access at) = refl
hot (Fault board fault.Dirty access at) = refl
hot (Fill board layer need at) = refl
hot (Claim board at) = refl
hot (WriteBack board at) = refl
hot (Refresh board at) = refl
hot (BlockFlush board holder at) = refl
hot (Leave board at) = refl
hot (PageOut board at) = refl
hot (PageIn board at frame) = refl
hot (SetRef board at) = refl
hot (SetDirty board at) = refl
hot (ClearRef board at) = refl

got : {A B : Type 0} (f : A → B) (xs : List A) (i : ℕ) (x : A) → slice_get xs i ≡ Some x → slice_get (map f xs) i ≡ Some (f x)
got f [] i x there = absurd cc
got {A} f (y ∷ ys) zero x there = (let same : y ≡ x = cc in ap (λ (z : A). Some (f z)) same)
got f (y ∷ ys) (suc i) x there = got f ys i x there

some_same : {a b : Bool} → ◌≡◌ {A = Option Bool} (Some a) (Some b) → a ≡ b
some_same h = cc

pub one_count : OneCount
one_count e place c there =
    let within : place < 21 = slice_get_within all_counts place c there in
    let same : 0 + place ≡ place = omega arith in
    let at : slice_get (places 0 21) place ≡ Some place = place_at 0 21 place within ∙ ap (λ (q : ℕ). Some q) same in
    some_same (sym (got (λ (d : Count). d.test e) all_counts place c there) ∙ ap (λ (bs : List Bool). slice_get bs place) (hot e) ∙ got (is_at (row_of e)) (places 0 21) place place at)

-- ---- the counts add up

one_more : (p : Entry → Bool) (e : Entry) (es : List Entry) → length (filter p (e ∷ es)) ≡ counted (p e) (length (filter p es))
one_more p e es = by (p e)
  where
    by : (b : Bool) → length (if b then e ∷ filter p es else filter p es) ≡ counted b (length (filter p es))
    by true = refl
    by false = refl

abbrev total : List ℕ → ℕ
total [] = 0
total (x ∷ xs) = x + total xs

total_raised : (xs : List ℕ) (i : ℕ) → i < length xs → total (slice_set xs i (suc (slice_index xs i))) ≡ suc (total xs)
total_raised [] i within = absurd (omega arith)
total_raised (x ∷ xs) zero within = omega arith
total_raised (x ∷ xs) (suc i) within = (let rest = total_raised xs i (omega arith) in omega arith)

sum_is_total : (f : Count → ℕ) (cs : List Count) → sum_by f cs ≡ total (map f cs)
sum_is_total f [] = refl
sum_is_total f (c ∷ cs) =
    let none : (0 + f c) + total (map f cs) ≡ f c + total (map f cs) = omega arith in
    sum_by_from f (0 + f c) cs ∙ ap (λ (n : ℕ). (0 + f c) + n) (sum_is_total f cs) ∙ none

row_within : (e : Entry) → row_of e < 21
row_within (Load board at value) = omega arith
row_within (Store board at value) = omega arith
row_within (Tas board at old) = omega arith
row_within (Fault board fault.Align access at) = omega arith
row_within (Fault board fault.Unmapped access at) = omega arith
row_within (Fault board fault.Missing access at) = omega arith
row_within (Fault board fault.Leaving access at) = omega arith
row_within (Fault board fault.Protection access at) = omega arith
row_within (Fault board fault.Reference access at) = omega arith
row_within (Fault board fault.Dirty access at) = omega arith
row_within (Fill board layer need at) = omega arith
row_within (Claim board at) = omega arith
row_within (WriteBack board at) = omega arith
row_within (Refresh board at) = omega arith
row_within (BlockFlush board holder at) = omega arith
row_within (Leave board at) = omega arith
row_within (PageOut board at) = omega arith
row_within (PageIn board at frame) = omega arith
row_within (SetRef board at) = omega arith
row_within (SetDirty board at) = omega arith
row_within (ClearRef board at) = omega arith

total_is_length : (es : List Entry) → total (counts_of es) ≡ length es
total_is_length [] = refl
total_is_length (e ∷ es) =
    ap total (map_same (number_of (e ∷ es)) (λ c. counted (c.test e) (number_of es c)) (λ c. one_more c.test e es) all_counts ∙ raised es e)
    ∙ total_raised (counts_of es) (row_of e) (row_within e) ∙ ap suc (total_is_length es)

pub counts_add_up : CountsAddUp
counts_add_up es = sum_is_total (number_of es) all_counts ∙ total_is_length es

-- no count is more than the number of the entries
in_total : (xs : List ℕ) (i : ℕ) → i < length xs → slice_index xs i ≤ total xs
in_total [] i within = absurd (omega arith)
in_total (x ∷ xs) zero within = omega arith
in_total (x ∷ xs) (suc i) within = (let rest = in_total xs i (omega arith) in omega arith)

pub count_within : (es : List Entry) (i : ℕ) → i < 21 → slice_index (counts_of es) i ≤ length es
count_within es i within = (let all = total_is_length es in let part = in_total (counts_of es) i within in omega arith)

-- ---- the counts of what the loop has seen

pub few_so_far : (es : List Entry) (i row : ℕ) (numbers : List ℕ) → numbers ≡ counts_of (take i es) → row < 21 → i < length es → slice_index numbers row ≤ i
few_so_far es i row numbers is within inside =
    let few : slice_index (counts_of (take i es)) row ≤ length (take i es) = count_within (take i es) row within in
    let seen : length (take i es) ≡ i = length-take-le i es (omega arith) in
    let same : slice_index numbers row ≡ slice_index (counts_of (take i es)) row = ap (λ (ns : List ℕ). slice_index ns row) is in
    omega arith

pub counts_next : (es : List Entry) (i : ℕ) (e : Entry) (row : ℕ) (numbers : List ℕ) → numbers ≡ counts_of (take i es) → i < length es → e ≡ slice_index_or es i e → row ≡ row_of e
    → slice_set numbers row (slice_index numbers row + 1) ≡ counts_of (take (i + 1) es)
counts_next es i e row numbers is within item place =
    let next : take (i + 1) es ≡ take i es ++ e ∷ [] = take_more es i e within ∙ ap (λ (x : Entry). take i es ++ x ∷ []) (sym item) in
    let raise : suc (slice_index (counts_of (take i es)) (row_of e)) ≡ slice_index (counts_of (take i es)) (row_of e) + 1 = omega arith in
    (λ k. slice_set (is k) (place k) (slice_index (is k) (place k) + 1))
    ∙ ap (slice_set (counts_of (take i es)) (row_of e)) (sym raise)
    ∙ sym (counts_more (take i es) e) ∙ ap counts_of (sym next)
