-- Lines of words.
use Rattle.std.specs.Prelude.{ℕ, List, [], ◌∷◌, ◌++◌}

-- the line feed that ends a line
abbrev pub feed : List ℕ
feed = 10 ∷ []

-- words with one space between each two, and a line feed behind the last
abbrev pub line_of : List (List ℕ) → List ℕ
line_of [] = feed
line_of (word ∷ []) = word ++ feed
line_of (word ∷ next ∷ words) = word ++ 32 ∷ line_of (next ∷ words)
