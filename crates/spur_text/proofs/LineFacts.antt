-- Lines of words, how long they are, and what stands behind them.
use Rattle.std.proofs.Common.{◌≡◌, ◌∙◌, refl, ap, ℕ, ◌+◌, List, [], ◌∷◌, ◌++◌, length, arith, append_assoc, length-append}
use Rattle.spur_text.specs.Line.{line_of}

-- words as a line, and what stands behind it
abbrev pub spread : List (List ℕ) → List ℕ → List ℕ
spread [] rest = 10 ∷ rest
spread (word ∷ []) rest = word ++ 10 ∷ rest
spread (word ∷ next ∷ words) rest = word ++ 32 ∷ spread (next ∷ words) rest

pub line_spread : (words : List (List ℕ)) (rest : List ℕ) → line_of words ++ rest ≡ spread words rest
line_spread [] rest = refl
line_spread (word ∷ []) rest = append_assoc word (10 ∷ []) rest
line_spread (word ∷ next ∷ words) rest =
    append_assoc word (32 ∷ line_of (next ∷ words)) rest ∙ ap (λ (x : List ℕ). word ++ 32 ∷ x) (line_spread (next ∷ words) rest)

-- ---- lengths

pub three_words : (a b c : List ℕ) → length (line_of (a ∷ b ∷ c ∷ [])) ≡ length a + length b + length c + 3
three_words a b c =
    let x = length-append a (32 ∷ (b ++ 32 ∷ (c ++ 10 ∷ []))) in
    let y = length-append b (32 ∷ (c ++ 10 ∷ [])) in
    let z = length-append c (10 ∷ []) in
    omega (arith, x, y, z)

pub four_words : (a b c d : List ℕ) → length (line_of (a ∷ b ∷ c ∷ d ∷ [])) ≡ length a + length b + length c + length d + 4
four_words a b c d =
    let x = length-append a (32 ∷ line_of (b ∷ c ∷ d ∷ [])) in
    let y = three_words b c d in
    omega (arith, x, y)

pub five_words : (a b c d e : List ℕ) → length (line_of (a ∷ b ∷ c ∷ d ∷ e ∷ [])) ≡ length a + length b + length c + length d + length e + 5
five_words a b c d e =
    let x = length-append a (32 ∷ line_of (b ∷ c ∷ d ∷ e ∷ [])) in
    let y = four_words b c d e in
    omega (arith, x, y)
