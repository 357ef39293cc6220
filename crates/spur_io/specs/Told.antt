-- What is known of the bytes that a source has left, and of those that were put into a sink.
-- `Some bytes` is told, `None` is not told.
use Rattle.std.specs.Prelude.{◌≡◌, ℕ, ◌<◌, ◌≤◌, List, [], ◌++◌, length, take, Result, MatchResult, None, Some}
use Rattle.std.specs.declared.option.Option.{Option}

-- told bytes lost these at their front; what was told still is, and what was not still isn't
abbrev pub Loses : Option (List ℕ) → Option (List ℕ) → List ℕ → Type 0
Loses None None bytes = Unit {0}
Loses None (Some new) bytes = ⊥
Loses (Some old) None bytes = ⊥
Loses (Some old) (Some new) bytes = old ≡ bytes ++ new

-- a front of just so many bytes was lost
abbrev pub LosesCount : Option (List ℕ) → Option (List ℕ) → ℕ → Type 0
LosesCount old new n = (bytes : List ℕ) × Loses old new bytes × (length bytes ≡ n)

-- a front of at most so many bytes was lost
abbrev pub LosesAtMost : Option (List ℕ) → Option (List ℕ) → ℕ → Type 0
LosesAtMost old new n = (bytes : List ℕ) × Loses old new bytes × (length bytes ≤ n)

-- no told byte is left
abbrev pub IsAtEnd : Option (List ℕ) → Type 0
IsAtEnd None = Unit {0}
IsAtEnd (Some left) = left ≡ []

-- told bytes gained these at their end; what was not told still isn't, and what was told may cease to be
abbrev pub Gains : Option (List ℕ) → Option (List ℕ) → List ℕ → Type 0
Gains None None bytes = Unit {0}
Gains None (Some new) bytes = ⊥
Gains (Some old) None bytes = Unit {0}
Gains (Some old) (Some new) bytes = new ≡ old ++ bytes

-- a front of the text was gained
abbrev pub GainsFront : Option (List ℕ) → Option (List ℕ) → List ℕ → Type 0
GainsFront old new text = (front rest : List ℕ) × Gains old new front × (text ≡ front ++ rest)

-- a call took from a source into a piece, which is now this: on `Ok n` the first n bytes of the piece,
-- none of a piece with room only at the end; nothing where it failed
abbrev pub Takes : {E : Type 0} → Option (List ℕ) → Option (List ℕ) → Result ℕ E → List ℕ → Type 0
Takes old new result piece =
    MatchResult result (λ n. Loses old new (take n piece) × (n ≡ 0 → 0 < length piece → IsAtEnd new)) (λ _. Loses old new [])

-- a call put a piece into a sink: on `Ok n` its first n bytes, at least one of a piece that has some;
-- nothing where it failed
abbrev pub Puts : {E : Type 0} → Option (List ℕ) → Option (List ℕ) → Result ℕ E → List ℕ → Type 0
Puts old new result piece =
    MatchResult result (λ n. Gains old new (take n piece) × (0 < length piece → 0 < n)) (λ _. Gains old new [])
