-- Lines that are put together of pieces, and the room that is left.
use Rattle.std.proofs.Common.{◌≡◌, ◌∙◌, ℕ, ◌+◌, List, [], ◌∷◌, ◌++◌, length, arith, append_assoc, length-append}
use Rattle.spur_text.specs.Line.{line_of}

begun : (verb b rest : List ℕ) → (verb ++ 32 ∷ b ++ 32 ∷ []) ++ rest ≡ verb ++ 32 ∷ (b ++ 32 ∷ rest)
begun verb b rest =
    append_assoc (verb ++ 32 ∷ b) (32 ∷ []) rest ∙ append_assoc verb (32 ∷ b) (32 ∷ rest)

pub access_line : (verb b g v : List ℕ)
    → (verb ++ 32 ∷ b ++ 32 ∷ []) ++ g ++ 32 ∷ [] ++ v ++ 10 ∷ [] ≡ line_of (verb ∷ b ∷ g ∷ v ∷ [])
access_line verb b g v =
    let last : (verb ++ 32 ∷ b ++ 32 ∷ []) ++ g ++ 32 ∷ [] ++ v ++ 10 ∷ [] ≡ (verb ++ 32 ∷ b ++ 32 ∷ []) ++ g ++ 32 ∷ [] ++ (v ++ 10 ∷ []) =
    append_assoc ((verb ++ 32 ∷ b ++ 32 ∷ []) ++ g ++ 32 ∷ []) v (10 ∷ []) in
    let space : (verb ++ 32 ∷ b ++ 32 ∷ []) ++ g ++ 32 ∷ [] ++ (v ++ 10 ∷ []) ≡ (verb ++ 32 ∷ b ++ 32 ∷ []) ++ g ++ (32 ∷ v ++ 10 ∷ []) =
    append_assoc ((verb ++ 32 ∷ b ++ 32 ∷ []) ++ g) (32 ∷ []) (v ++ 10 ∷ []) in
    let at = append_assoc (verb ++ 32 ∷ b ++ 32 ∷ []) g (32 ∷ v ++ 10 ∷ []) in
    last ∙ (space ∙ (at ∙ begun verb b (g ++ (32 ∷ v ++ 10 ∷ []))))

pub place_line : (verb b g : List ℕ) → (verb ++ 32 ∷ b ++ 32 ∷ []) ++ g ++ 10 ∷ [] ≡ line_of (verb ∷ b ∷ g ∷ [])
place_line verb b g = append_assoc (verb ++ 32 ∷ b ++ 32 ∷ []) g (10 ∷ []) ∙ begun verb b (g ++ 10 ∷ [])

pub words_line : (verb b x y g : List ℕ)
    → (verb ++ 32 ∷ b ++ 32 ∷ []) ++ x ++ 32 ∷ [] ++ y ++ 32 ∷ [] ++ g ++ 10 ∷ [] ≡ line_of (verb ∷ b ∷ x ∷ y ∷ g ∷ [])
words_line verb b x y g =
    let f : List ℕ = (verb ++ 32 ∷ b ++ 32 ∷ []) ++ x in
    let one = append_assoc ((verb ++ 32 ∷ b ++ 32 ∷ []) ++ x ++ 32 ∷ [] ++ y ++ 32 ∷ []) g (10 ∷ []) in
    let two = append_assoc ((verb ++ 32 ∷ b ++ 32 ∷ []) ++ x ++ 32 ∷ [] ++ y) (32 ∷ []) (g ++ 10 ∷ []) in
    let three = append_assoc ((verb ++ 32 ∷ b ++ 32 ∷ []) ++ x ++ 32 ∷ []) y (32 ∷ (g ++ 10 ∷ [])) in
    let four = append_assoc ((verb ++ 32 ∷ b ++ 32 ∷ []) ++ x) (32 ∷ []) (y ++ (32 ∷ (g ++ 10 ∷ []))) in
    let five = append_assoc (verb ++ 32 ∷ b ++ 32 ∷ []) x (32 ∷ (y ++ (32 ∷ (g ++ 10 ∷ [])))) in
    one ∙ (two ∙ (three ∙ (four ∙ (five ∙ begun verb b (x ++ (32 ∷ (y ++ (32 ∷ (g ++ 10 ∷ [])))))))))

pub begun_length : (verb b : List ℕ) → length (verb ++ 32 ∷ b ++ 32 ∷ []) ≡ length verb + length b + 2
begun_length verb b =
    let one = length-append (verb ++ 32 ∷ b) (32 ∷ []) in
    let two = length-append verb (32 ∷ b) in
    omega (arith, one, two)
