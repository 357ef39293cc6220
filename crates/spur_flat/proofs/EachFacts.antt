-- A list changed member by member, each by its position.
use Rattle.std.proofs.Common.{◌≡◌, ℕ, ◌+◌, ◌<◌, suc, List, [], ◌∷◌, ◌++◌, length, take, drop, get_or, refl, sym, ap, ◌∙◌, arith, add-zero, drop-cons}
use Rattle.std.proofs.Math.ListN.{set}
use Rattle.std.proofs.lemmas.List.{take_more, drop-set-lt, length-take-le}
use Rattle.std.proofs.lemmas.Grind.{take-set_at, drop_more_same}
use Rattle.spur_flat.specs.TagLines.{each_from}

each_from-snoc : {X : Type 0} (f : ℕ → X → X) (k : ℕ) (xs : List X) (y : X) → each_from f k (xs ++ y ∷ []) ≡ each_from f k xs ++ f (k + length xs) y ∷ []
each_from-snoc f k [] y = ap (λ (n : ℕ). f n y ∷ []) (sym (add-zero k))
each_from-snoc {X} f k (x ∷ xs) y =
    let place : (k + 1) + length xs ≡ k + suc (length xs) = omega arith in
    ap (λ (zs : List X). f k x ∷ zs) (each_from-snoc f (k + 1) xs y ∙ ap (λ (n : ℕ). each_from f (k + 1) xs ++ f n y ∷ []) place)

-- one step of a loop that changes each member: the first i members of `now` are changed, the others are those of `old`,
-- and b is the member at i, changed
pub each_step : {X : Type 0} (f : ℕ → X → X) (now old : List X) (i : ℕ) (d b : X) → i < length old → length now ≡ length old
    → take i now ≡ each_from f 0 (take i old) → drop i now ≡ drop i old → b ≡ f i (get_or now i d)
    → (take (i + 1) (set now i b) ≡ each_from f 0 (take (i + 1) old)) × (drop (i + 1) (set now i b) ≡ drop (i + 1) old)
each_step {X} f now old i d b within_old same done left changed =
    let within : i < length now = omega arith in
    let heads : get_or now i d ∷ drop (suc i) now ≡ get_or old i d ∷ drop (suc i) old = sym (drop-cons now i d within) ∙ left ∙ drop-cons old i d within_old in
    let head : get_or now i d ≡ get_or old i d = cc in
    let count : length (take i old) ≡ i = length-take-le i old (omega arith) in
    let there : 0 + length (take i old) ≡ i = omega arith in (
      take-set_at now i (i + 1) b refl within
          ∙ ap (λ (zs : List X). zs ++ b ∷ []) done
          ∙ ap (λ (z : X). each_from f 0 (take i old) ++ z ∷ []) (changed ∙ ap (f i) head)
          ∙ ap (λ (n : ℕ). each_from f 0 (take i old) ++ f n (get_or old i d) ∷ []) (sym there)
          ∙ sym (each_from-snoc f 0 (take i old) (get_or old i d))
          ∙ ap (λ (zs : List X). each_from f 0 zs) (sym (take_more old i d within_old)),
      drop-set-lt (i + 1) now i b (omega arith) ∙ drop_more_same now old i left,
    )
