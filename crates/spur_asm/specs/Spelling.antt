-- How a line is spelled by its tokens. Nothing here reads.
use Rattle.std.specs.Prelude.{◌≡◌, ◌≢◌, ◌⊎◌, ℕ, ◌≤◌, Bool, true, false, List, [], ◌∷◌, ◌++◌, length, ℤ, pos, neg_ℤ}
use Rattle.std.specs.List.{list_all}
use Rattle.std.specs.Str.Parse.{IsNumeral, digits_value}
use Rattle.spur_asm.specs.Bytes.{is_blank, is_mark, is_name_byte, is_name_start}
use Rattle.spur_asm.specs.Token.{Token, Name, Number, Mark, is_word}

-- ---- the text of a token

-- a name has 1 to 64 bytes: one that may begin a name, then such as go on with it
pub record IsName (name : List ℕ) : Type 0 where
  pub first : ℕ
  pub more : List ℕ
  pub is : name ≡ first ∷ more
  pub starts : is_name_start first ≡ true
  pub goes_on : list_all is_name_byte more ≡ true
  pub short : length name ≤ 64

-- 1 to `most` digits of this radix; letters of either case stand for 10 and above
pub record IsDigits (radix most : ℕ) (digits : List ℕ) : Type 0 where
  pub numeral : IsNumeral radix digits
  pub few : length digits ≤ most

-- `0x` (48 and 120) and 1 to 8 hexadecimal digits write the number n
pub record IsHexadecimal (text : List ℕ) (n : ℕ) : Type 0 where
  pub digits : List ℕ
  pub is : text ≡ 48 ∷ 120 ∷ digits
  pub are_digits : IsDigits 16 8 digits
  pub value : n ≡ digits_value 16 digits

-- 1 to 10 decimal digits, of which the first may be zeros, write the number n
pub record IsDecimal (text : List ℕ) (n : ℕ) : Type 0 where
  pub are_digits : IsDigits 10 10 text
  pub value : n ≡ digits_value 10 text

abbrev pub IsMagnitude : List ℕ → ℕ → Type 0
IsMagnitude text n = IsDecimal text n ⊎ IsHexadecimal text n

-- a minus (45) and a magnitude
pub record IsNegative (text : List ℕ) (z : ℤ) : Type 0 where
  pub magnitude : ℕ
  pub more : List ℕ
  pub is : text ≡ 45 ∷ more
  pub is_magnitude : IsMagnitude more magnitude
  pub value : z ≡ neg_ℤ (pos magnitude)

-- a magnitude alone
pub record IsPositive (text : List ℕ) (z : ℤ) : Type 0 where
  pub magnitude : ℕ
  pub is_magnitude : IsMagnitude text magnitude
  pub value : z ≡ pos magnitude

-- the text writes the number z
abbrev pub IsNumber : List ℕ → ℤ → Type 0
IsNumber text z = IsPositive text z ⊎ IsNegative text z

-- the text writes the token
abbrev pub IsText : Token → List ℕ → Type 0
IsText (Name name) text = (text ≡ name) × IsName name
IsText (Number z) text = IsNumber text z
IsText (Mark mark) text = (text ≡ mark ∷ []) × (is_mark mark ≡ true)

-- ---- the tokens of a line

abbrev pub AreBlank : List ℕ → Type 0
AreBlank bytes = list_all is_blank bytes ≡ true

-- the bytes begin with blanks and this token, and the rest is as told; where a name or a number has just ended, another one begins only
-- behind a blank
pub record BeginsWith (token : Token) (IsRest : List ℕ → Type 0) (behind_word : Bool) (bytes : List ℕ) : Type 0 where
  pub gap : List ℕ
  pub text : List ℕ
  pub rest : List ℕ
  pub is : bytes ≡ gap ++ (text ++ rest)
  pub blank : AreBlank gap
  pub apart : behind_word ≡ true → is_word token ≡ true → gap ≢ []
  pub token_text : IsText token text
  pub others : IsRest rest

-- the bytes are these tokens with blanks before, between and behind them
abbrev pub HasTokens : List Token → Bool → List ℕ → Type 0
HasTokens [] behind_word bytes = AreBlank bytes
HasTokens (token ∷ tokens) behind_word bytes = BeginsWith token (λ rest. HasTokens tokens (is_word token) rest) behind_word bytes

-- nothing, or a `;` and any bytes
abbrev pub IsComment : List ℕ → Type 0
IsComment bytes = (bytes ≡ []) ⊎ ((more : List ℕ) × (bytes ≡ 59 ∷ more))

-- the line is these tokens, and a comment if there is one
pub record SpellsTokens (line : List ℕ) (tokens : List Token) : Type 0 where
  pub body : List ℕ
  pub comment : List ℕ
  pub is : line ≡ body ++ comment
  pub is_comment : IsComment comment
  pub has_tokens : HasTokens tokens false body
