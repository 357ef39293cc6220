-- Which of some things has its word in front, one after the other.
use Rattle.std.proofs.Common.{◌≡◌, ◌∙◌, refl, ap, sym, ℕ, zero, suc, ◌+◌, ◌<◌, ◌≤◌, Bool, true, false, List, [], ◌∷◌, ◌++◌, length, drop, get_or, Option, Some, None, add-one, arith, subst}
use Rattle.spur_trace.specs.Reading.{Skips, behind, word_at}

-- the word of the next one does not stand in front
differs : {A : Type 0} (word : A → List ℕ) (xs : List A) (i : ℕ) (d : A) (bytes : List ℕ) → i < length xs
    → behind (word (get_or xs i d) ++ 32 ∷ []) bytes ≡ None → word_at word (drop i xs) bytes ≡ word_at word (drop (suc i) xs) bytes
differs word [] i d bytes lt none = absurd (omega arith)
differs word (x ∷ xs) zero d bytes lt none = rw none refl
differs word (x ∷ xs) (suc i) d bytes lt none = differs word xs i d bytes (omega arith) none

pub word_differs : {A : Type 0} (word : A → List ℕ) (xs : List A) (i : ℕ) (d : A) (bytes : List ℕ) → i < length xs
    → behind (word (get_or xs i d) ++ 32 ∷ []) bytes ≡ None → word_at word (drop (i + 1) xs) bytes ≡ word_at word (drop i xs) bytes
word_differs word xs i d bytes lt none =
    ap (λ (k : ℕ). word_at word (drop k xs) bytes) (add-one i) ∙ sym (differs word xs i d bytes lt none)

-- it stands in front
pub word_stands : {A : Type 0} (word : A → List ℕ) (xs : List A) (i : ℕ) (d : A) (bytes rest : List ℕ) → i < length xs
    → behind (word (get_or xs i d) ++ 32 ∷ []) bytes ≡ Some rest → word_at word (drop i xs) bytes ≡ Some (get_or xs i d, rest)
word_stands word [] i d bytes rest lt found = absurd (omega arith)
word_stands word (x ∷ xs) zero d bytes rest lt found = rw found refl
word_stands word (x ∷ xs) (suc i) d bytes rest lt found = word_stands word xs i d bytes rest (omega arith) found

-- none is left
pub no_word : {A : Type 0} (word : A → List ℕ) (xs : List A) (i : ℕ) (bytes : List ℕ) → length xs ≤ i → word_at word (drop i xs) bytes ≡ None
no_word word [] zero bytes all = refl
no_word word [] (suc i) bytes all = refl
no_word word (x ∷ xs) zero bytes all = absurd (omega arith)
no_word word (x ∷ xs) (suc i) bytes all = no_word word xs i bytes (omega arith)

-- ---- a loop that tries them in turn

-- the next one's word, which is this, does not stand in front, and nothing is taken
pub goes_on : {A : Type 0} (word : A → List ℕ) (xs : List A) (i : ℕ) (d : A) (bytes left front : List ℕ) (found : Bool) (whole : Option (A × List ℕ))
    → i < length xs → front ≡ word (get_or xs i d) → Skips (front ++ 32 ∷ []) bytes found left → found ≡ false → (found ≡ false → left ≡ bytes)
    → word_at word (drop i xs) bytes ≡ whole → word_at word (drop (i + 1) xs) left ≡ whole
goes_on word xs i d bytes left front true whole lt is skips none stays so_far = absurd cc
goes_on word xs i d bytes left front false whole lt is skips none stays so_far =
    let differs : behind (word (get_or xs i d) ++ 32 ∷ []) bytes ≡ None = subst (λ (x : List ℕ). behind (x ++ 32 ∷ []) bytes ≡ None) is skips in
    ap (word_at word (drop (i + 1) xs)) (stays refl) ∙ (word_differs word xs i d bytes lt differs ∙ so_far)

-- it stands in front, and is taken
pub is_found : {A : Type 0} (word : A → List ℕ) (xs : List A) (i : ℕ) (d : A) (bytes left front : List ℕ) (found : Bool) (whole : Option (A × List ℕ))
    → i < length xs → front ≡ word (get_or xs i d) → Skips (front ++ 32 ∷ []) bytes found left → found ≡ true
    → word_at word (drop i xs) bytes ≡ whole → whole ≡ Some (get_or xs i d, left)
is_found word xs i d bytes left front false whole lt is skips there so_far = absurd cc
is_found word xs i d bytes left front true whole lt is skips there so_far =
    let stands : behind (word (get_or xs i d) ++ 32 ∷ []) bytes ≡ Some left = subst (λ (x : List ℕ). behind (x ++ 32 ∷ []) bytes ≡ Some left) is skips in
    sym so_far ∙ word_stands word xs i d bytes left lt stands
