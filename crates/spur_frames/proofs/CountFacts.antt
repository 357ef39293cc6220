-- How many frames are free.
use Rattle.std.proofs.Common.{◌≡◌, ◌∙◌, ℕ, ◌+◌, ◌==◌, cond, List, [], ◌∷◌, Option, Some, None, ap, refl, arith}
use Rattle.std.specs.Prelude.{is_none}
use Rattle.std.proofs.lemmas.Bool.{ne_eqb}
use Rattle.std.proofs.lemmas.List.Sums.{sum_by-cons}
use Rattle.spur_frames.specs.Frames.{free_count, free_from}

-- what a frame adds to their number
abbrev one_if_free : Option (ℕ × ℕ) → ℕ
one_if_free o = cond (is_none o) 1 0

-- where their number is 0, none is found
pub none_counted : (k : ℕ) (held : List (Option (ℕ × ℕ))) → free_count held ≡ 0 → free_from k held ≡ None
none_counted k [] none = refl
none_counted k (None ∷ rest) none =
    let more : free_count (None ∷ rest) ≡ 1 + free_count rest = sum_by-cons one_if_free None rest in
    absurd (omega arith)
none_counted k (Some holder ∷ rest) none =
    let same : free_count (Some holder ∷ rest) ≡ 0 + free_count rest = sum_by-cons one_if_free (Some holder) rest in
    none_counted (k + 1) rest (omega arith)

-- and only there
pub counted_none : (k : ℕ) (held : List (Option (ℕ × ℕ))) → (free_count held == 0) ≡ is_none (free_from k held)
counted_none k [] = refl
counted_none k (None ∷ rest) =
    let more : free_count (None ∷ rest) ≡ 1 + free_count rest = sum_by-cons one_if_free None rest in
    ne_eqb (free_count (None ∷ rest)) 0 (λ (none : free_count (None ∷ rest) ≡ 0). omega arith)
counted_none k (Some holder ∷ rest) =
    let same : free_count (Some holder ∷ rest) ≡ 0 + free_count rest = sum_by-cons one_if_free (Some holder) rest in
    let is : free_count (Some holder ∷ rest) ≡ free_count rest = omega arith in
    ap (λ (n : ℕ). n == 0) is ∙ counted_none (k + 1) rest
