-- How a line is cut into tokens: each as it stands in its line, with what is wrong with it by itself.
use Rattle.std.specs.Prelude.{◌≡◌, ℕ, zero, suc, Bool, false, ◌&&◌, ◌||◌, nat_lt, if◌then◌else◌, List, [], ◌∷◌, length, Option, Some, None, Result, Ok, Err, ℤ}
use Rattle.std.specs.Char.{is_ascii_graphic}
use Rattle.std.specs.List.{before_first, prefix_len, take_while}
use Rattle.spur_asm.specs.Bytes.{is_blank, is_mark, is_name_byte, is_name_start, is_number_byte, is_number_start, is_semicolon}
use Rattle.spur_asm.specs.Token.{Token, Name, Number, Mark}
use Rattle.spur_asm.specs.Number.{numeral_value}
use Rattle.spur_asm.specs.declared.fault.AsmKind.{AsmKind}
use Rattle.spur_asm.specs.declared.fault.AsmKind.TheVariants.{BadByte, BadToken, BadNumber}
use Rattle.spur_asm.specs.declared.token.Token as seen
use Rattle.spur_asm.specs.declared.token.Token.TheVariants as seen_tokens
use Rattle.spur_asm.specs.declared.token.Lexeme as seen_lexemes

-- a token, or what is wrong with it; whether it is a name or a number and follows one with no blank between; how many bytes are left from
-- its first byte on
pub record Lexeme : Type 0 where
  pub token : Result Token AsmKind
  pub glued : Bool
  pub left : ℕ

-- a name of at most 64 bytes
abbrev pub named : List ℕ → Result Token AsmKind
named text = if nat_lt 64 (length text) then Err BadToken else Ok (Name text)

-- a number that is well formed
abbrev pub numbered : Option ℤ → Result Token AsmKind
numbered None = Err BadNumber
numbered (Some z) = Ok (Number z)

-- the token that begins with this byte, which is no blank, and goes on in these
abbrev pub token_at : ℕ → List ℕ → Result Token AsmKind
token_at b bytes =
    if is_name_start b then named (b ∷ take_while is_name_byte bytes) else
    (if is_number_start b then numbered (numeral_value (b ∷ take_while is_number_byte bytes)) else
    (if is_mark b then Ok (Mark b) else
    (if is_ascii_graphic b then Err BadToken else Err BadByte)))

-- how many of the bytes behind its first one a token takes; a blank takes none
abbrev pub more_of : ℕ → List ℕ → ℕ
more_of b bytes =
    if is_name_start b then prefix_len is_name_byte bytes else
    (if is_number_start b then prefix_len is_number_byte bytes else 0)

-- whether a name or a number begins with this byte
abbrev pub begins_word : ℕ → Bool
begins_word b = is_name_start b || is_number_start b

abbrev pub lexeme_at : Bool → ℕ → List ℕ → Lexeme
lexeme_at behind_word b bytes = record { token = token_at b bytes; glued = behind_word && begins_word b; left = length (b ∷ bytes) }

abbrev pub onto_lexemes : Bool → ℕ → List ℕ → List Lexeme → List Lexeme
onto_lexemes behind_word b bytes lexemes = if is_blank b then lexemes else lexeme_at behind_word b bytes ∷ lexemes

-- the tokens behind the first n bytes, which a token before has taken; `behind_word` tells whether a name or a number ends there
abbrev pub lexemes_from : ℕ → Bool → List ℕ → List Lexeme
lexemes_from n behind_word [] = []
lexemes_from (suc n) behind_word (b ∷ bytes) = lexemes_from n behind_word bytes
lexemes_from zero behind_word (b ∷ bytes) = onto_lexemes behind_word b bytes (lexemes_from (more_of b bytes) (begins_word b) bytes)

-- the tokens of a line, without its comment
abbrev pub lexemes_of : List ℕ → List Lexeme
lexemes_of line = lexemes_from 0 false (before_first is_semicolon line)

-- ---- the code's tokens

abbrev pub token_of : seen.Token → Token
token_of (seen_tokens.Name text) = Name text.now
token_of (seen_tokens.Number z) = Number z
token_of (seen_tokens.Mark mark) = Mark mark

abbrev pub token_in : Result seen.Token AsmKind → Result Token AsmKind
token_in (Ok token) = Ok (token_of token)
token_in (Err kind) = Err kind

abbrev pub lexeme_of : seen_lexemes.Lexeme → Lexeme
lexeme_of l = record { token = token_in l.token; glued = l.glued; left = l.left }

-- what a step over a line's tokens says: the first of them, and the rest; none where the line has ended
abbrev pub TakesLexeme : Option seen_lexemes.Lexeme → List Lexeme → List Lexeme → Type 0
TakesLexeme None before after = before ≡ []
TakesLexeme (Some l) before after = before ≡ lexeme_of l ∷ after
