-- A list changed element by element.
use Rattle.std.proofs.Common.{◌≡◌, ◌≢◌, slice_get, Some, ℕ, zero, ◌+◌, ◌<◌, ◌≤◌, suc, List, [], ◌∷◌, ◌++◌, length, take, drop, get_or, refl, sym, ap, ◌∙◌, arith, add-zero, drop-cons}
use Rattle.std.specs.Option.{option_map}
use Rattle.std.proofs.Math.ListN.{set}
use Rattle.std.proofs.lemmas.List.{take_all, take_more, drop-set-lt, length-take-le}
use Rattle.std.proofs.lemmas.Grind.{take-set_at, drop_more_same}
use Rattle.spur_flat.specs.TagLines.{each_from}

pub each_from-push : {X : Type 0} (f : ℕ → X → X) (k : ℕ) (xs : List X) (y : X) → each_from f k (xs ++ y ∷ []) ≡ each_from f k xs ++ f (k + length xs) y ∷ []
each_from-push f k [] y = ap (λ (n : ℕ). f n y ∷ []) (sym (add-zero k))
each_from-push {X} f k (x ∷ xs) y =
    let e : (k + 1) + length xs ≡ k + suc (length xs) = omega arith in
    ap (λ (zs : List X). f k x ∷ zs) (each_from-push f (k + 1) xs y ∙ ap (λ (n : ℕ). each_from f (k + 1) xs ++ f n y ∷ []) e)

pub each_step : {X : Type 0} (f : ℕ → X → X) (now old : List X) (i : ℕ) (d b : X) → i < length old → length now ≡ length old
    → take i now ≡ each_from f 0 (take i old) → drop i now ≡ drop i old → b ≡ f i (get_or now i d)
    → (take (i + 1) (set now i b) ≡ each_from f 0 (take (i + 1) old)) × (drop (i + 1) (set now i b) ≡ drop (i + 1) old)
each_step {X} f now old i d b within_old same done left changed =
    let within : i < length now = omega arith in
    let heads : get_or now i d ∷ drop (suc i) now ≡ get_or old i d ∷ drop (suc i) old = sym (drop-cons now i d within) ∙ left ∙ drop-cons old i d within_old in
    let head : get_or now i d ≡ get_or old i d = cc in
    let count : length (take i old) ≡ i = length-take-le i old (omega arith) in
    let there : 0 + length (take i old) ≡ i = omega arith in (
      take-set_at now i (i + 1) b refl within
          ∙ ap (λ (zs : List X). zs ++ b ∷ []) done
          ∙ ap (λ (z : X). each_from f 0 (take i old) ++ z ∷ []) (changed ∙ ap (f i) head)
          ∙ ap (λ (n : ℕ). each_from f 0 (take i old) ++ f n (get_or old i d) ∷ []) (sym there)
          ∙ sym (each_from-push f 0 (take i old) (get_or old i d))
          ∙ ap (λ (zs : List X). each_from f 0 zs) (sym (take_more old i d within_old)),
      drop-set-lt (i + 1) now i b (omega arith) ∙ drop_more_same now old i left,
    )

-- at the end all are changed
pub each_done : {X : Type 0} (f : ℕ → X → X) (now old : List X) (i : ℕ) → length old ≤ i → length now ≡ length old
    → take i now ≡ each_from f 0 (take i old) → now ≡ each_from f 0 old
each_done {X} f now old i all same done =
    sym (take_all i now (omega arith)) ∙ done ∙ ap (λ (xs : List X). each_from f 0 xs) (take_all i old all)

pub each_same : {X : Type 0} (f h : ℕ → X → X) (k : ℕ) (xs : List X) → ((j : ℕ) (x : X) → k ≤ j → f j x ≡ h j x) → each_from f k xs ≡ each_from h k xs
each_same f h k [] same = refl
each_same {X} f h k (x ∷ xs) same =
    ap (λ (z : X). z ∷ each_from f (k + 1) xs) (same k x (omega arith))
    ∙ ap (λ (zs : List X). h k x ∷ zs) (each_same f h (k + 1) xs (λ (j : ℕ) (z : X) (low : k + 1 ≤ j). same j z (omega arith)))

-- one element changed before each is
pub each_of_set : {X : Type 0} (f h : ℕ → X → X) (k : ℕ) (xs : List X) (i : ℕ) (d y : X) → i < length xs → f (k + i) y ≡ h (k + i) (get_or xs i d)
    → ((j : ℕ) (x : X) → j ≢ k + i → f j x ≡ h j x) → each_from f k (set xs i y) ≡ each_from h k xs
each_of_set f h k [] i d y within is others = absurd (omega arith)
each_of_set {X} f h k (x ∷ xs) zero d y within is others =
    let first : f k y ≡ h k x = ap (λ (n : ℕ). f n y) (sym (add-zero k)) ∙ is ∙ ap (λ (n : ℕ). h n x) (add-zero k) in
    ap (λ (z : X). z ∷ each_from f (k + 1) xs) first
    ∙ ap (λ (zs : List X). h k x ∷ zs) (each_same f h (k + 1) xs (λ (j : ℕ) (z : X) (low : k + 1 ≤ j). others j z (λ (e : j ≡ k + 0). omega arith)))
each_of_set {X} f h k (x ∷ xs) (suc i) d y within is others =
    let place : (k + 1) + i ≡ k + suc i = omega arith in
    ap (λ (z : X). z ∷ each_from f (k + 1) (set xs i y)) (others k x (λ (e : k ≡ k + suc i). omega arith))
    ∙ ap (λ (zs : List X). h k x ∷ zs)
    (each_of_set f h (k + 1) xs i d y (omega arith) (ap (λ (n : ℕ). f n y) place ∙ is ∙ ap (λ (n : ℕ). h n (get_or xs i d)) (sym place))
    (λ (j : ℕ) (z : X) (apart : j ≢ (k + 1) + i). others j z (λ (e : j ≡ k + suc i). apart (e ∙ sym place))))

pub get_or-each : {X : Type 0} (f : ℕ → X → X) (k : ℕ) (xs : List X) (i : ℕ) (d : X) → i < length xs → get_or (each_from f k xs) i d ≡ f (k + i) (get_or xs i d)
get_or-each f k [] i d within = absurd (omega arith)
get_or-each {X} f k (x ∷ xs) zero d within = ap (λ (n : ℕ). f n x) (sym (add-zero k))
get_or-each {X} f k (x ∷ xs) (suc i) d within =
    let place : (k + 1) + i ≡ k + suc i = omega arith in
    get_or-each f (k + 1) xs i d (omega arith) ∙ ap (λ (n : ℕ). f n (get_or xs i d)) place

-- one element changed is each changed by its number
pub each_id : {X : Type 0} (h : ℕ → X → X) (k : ℕ) (xs : List X) → ((j : ℕ) (x : X) → k ≤ j → h j x ≡ x) → xs ≡ each_from h k xs
each_id h k [] same = refl
each_id {X} h k (x ∷ xs) same =
    ap (λ (z : X). z ∷ xs) (sym (same k x (omega arith)))
    ∙ ap (λ (zs : List X). h k x ∷ zs) (each_id h (k + 1) xs (λ (j : ℕ) (z : X) (low : k + 1 ≤ j). same j z (omega arith)))

pub set_each : {X : Type 0} (h : ℕ → X → X) (k : ℕ) (xs : List X) (i : ℕ) (d y : X) → i < length xs → y ≡ h (k + i) (get_or xs i d) → ((j : ℕ) (x : X) → j ≢ k + i → h j x ≡ x) → set xs i y ≡ each_from h k xs
set_each h k [] i d y within is others = absurd (omega arith)
set_each {X} h k (x ∷ xs) zero d y within is others =
    ap (λ (z : X). z ∷ xs) (is ∙ ap (λ (n : ℕ). h n x) (add-zero k))
    ∙ ap (λ (zs : List X). h k x ∷ zs) (each_id h (k + 1) xs (λ (j : ℕ) (z : X) (low : k + 1 ≤ j). others j z (λ (e : j ≡ k + 0). omega arith)))
set_each {X} h k (x ∷ xs) (suc i) d y within is others =
    let place : (k + 1) + i ≡ k + suc i = omega arith in
    ap (λ (z : X). z ∷ set xs i y) (sym (others k x (λ (e : k ≡ k + suc i). omega arith)))
    ∙ ap (λ (zs : List X). h k x ∷ zs)
    (set_each h (k + 1) xs i d y (omega arith) (is ∙ ap (λ (n : ℕ). h n (get_or xs i d)) (sym place))
    (λ (j : ℕ) (z : X) (apart : j ≢ (k + 1) + i). others j z (λ (e : j ≡ k + suc i). apart (e ∙ sym place))))

pub length-each : {X : Type 0} (f : ℕ → X → X) (k : ℕ) (xs : List X) → length (each_from f k xs) ≡ length xs
length-each f k [] = refl
length-each f k (x ∷ xs) = let rest : length (each_from f (k + 1) xs) ≡ length xs = length-each f (k + 1) xs in omega arith

pub slice_get-each : {X : Type 0} (f : ℕ → X → X) (k : ℕ) (xs : List X) (i : ℕ) → slice_get (each_from f k xs) i ≡ option_map (f (k + i)) (slice_get xs i)
slice_get-each f k [] i = refl
slice_get-each f k (x ∷ xs) zero = ap (λ (n : ℕ). Some (f n x)) (sym (add-zero k))
slice_get-each {X} f k (x ∷ xs) (suc i) =
    let e : (k + 1) + i ≡ k + suc i = omega arith in
    slice_get-each f (k + 1) xs i ∙ ap (λ (n : ℕ). option_map (f n) (slice_get xs i)) e
