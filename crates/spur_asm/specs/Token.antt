-- What a line is made of.
use Rattle.std.specs.Prelude.{ℕ, Bool, true, false, ◌==◌, List, [], ◌∷◌, ℤ}

-- a name, a number, or a mark
pub data Token : Type 0 where
  Name : (text : List ℕ) → Token
  Number : (value : ℤ) → Token
  Mark : (mark : ℕ) → Token

-- whether a token is a name or a number: a blank is needed between two such tokens
abbrev pub is_word : Token → Bool
is_word (Name text) = true
is_word (Number value) = true
is_word (Mark mark) = false

-- the marks
abbrev pub comma : Token
comma = Mark 44

abbrev pub colon : Token
colon = Mark 58

abbrev pub opening : Token
opening = Mark 40

abbrev pub closing : Token
closing = Mark 41

-- whether a name begins with `.`
abbrev pub is_dotted : List ℕ → Bool
is_dotted [] = false
is_dotted (b ∷ bytes) = b == 46
