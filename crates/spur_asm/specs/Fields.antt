-- How the fields of a statement are read: each reader takes the tokens that are left, and gives what the first stands for and those behind
-- it, or in which way it does not fit.
use Rattle.std.specs.Prelude.{◌≡◌, ℕ, ◌-◌, ◌%◌, ◌&&◌, ◌||◌, ◌==◌, nat_lt, if◌then◌else◌, List, [], ◌∷◌, Option, Some, None, Result, Ok, Err, ℤ, pos, negsuc, int_lt, unsigned_abs, codes}
use Rattle.std.specs.Char.{is_ascii_digit}
use Rattle.std.specs.Str.{bytes_eq}
use Rattle.spur_addr.specs.declared.page_entry.Protection.{Protection}
use Rattle.spur_addr.specs.declared.page_entry.Protection.TheVariants.{Nothing, ReadOnly, ReadWrite}
use Rattle.spur_asm.specs.Token.{Token, Name, Number, Mark}
use Rattle.spur_asm.specs.Lexeme.{Lexeme}
use Rattle.spur_asm.specs.declared.fault.AsmKind.{AsmKind}
use Rattle.spur_asm.specs.declared.fault.AsmKind.TheVariants.{BadToken, BadNumber, UnknownName, NoLabel}
use Rattle.spur_asm.specs.declared.fault.Misfit.{Misfit}

-- one reader behind another; the first fault is the line's
infixl 10 ◌>>=◌
abbrev pub ◌>>=◌ : {A B E : Type 0} → Result A E → (A → Result B E) → Result B E
(Ok x) >>= f = f x
(Err e) >>= f = Err e

abbrev pub misfit : AsmKind → ℕ → Misfit
misfit kind left = record { kind = kind; left = left }

-- ---- any field

-- what a token stands for, unless it has a fault by itself
abbrev pub token_value : {A : Type 0} → Result Token AsmKind → (Token → Result A AsmKind) → Result A AsmKind
token_value (Ok token) stands_for = stands_for token
token_value (Err kind) stands_for = Err kind

-- a token that stands for this value; it must not be glued to the one before
abbrev pub taken : {A : Type 0} → Lexeme → Result A AsmKind → List Lexeme → Result (A × List Lexeme) Misfit
taken one (Err kind) lexemes = Err (misfit kind one.left)
taken one (Ok value) lexemes = if one.glued then Err (misfit BadToken one.left) else Ok (value, lexemes)

-- the field that the first token is, by what a token stands for; the line may not end here
abbrev pub field_at : {A : Type 0} → (Token → Result A AsmKind) → List Lexeme → Result (A × List Lexeme) Misfit
field_at stands_for [] = Err (misfit BadToken 0)
field_at stands_for (one ∷ lexemes) = taken one (token_value one.token stands_for) lexemes

-- a token where another kind, or none, is wanted
abbrev pub unwanted : {A : Type 0} → Token → Result A AsmKind
unwanted token = Err BadToken

abbrev pub leftover : {A : Type 0} → Lexeme → Result A AsmKind → Result A Misfit
leftover one (Err kind) = Err (misfit kind one.left)
leftover one (Ok value) = Ok value

-- the end of the line, behind this value
abbrev pub end_at : {A : Type 0} → A → List Lexeme → Result A Misfit
end_at value [] = Ok value
end_at value (one ∷ lexemes) = leftover one (token_value one.token unwanted)

-- ---- what a token stands for

-- what a name stands for, if it stands for anything
abbrev pub known : {A : Type 0} → AsmKind → Option A → Result A AsmKind
known kind None = Err kind
known kind (Some value) = Ok value

-- this mark
abbrev pub mark_in : ℕ → Token → Result ℕ AsmKind
mark_in wanted (Mark mark) = if mark == wanted then Ok wanted else Err BadToken
mark_in wanted other = Err BadToken

-- `r0` to `r15`
abbrev pub named_register : List ℕ → Option ℕ
named_register (r ∷ d ∷ []) = if r == 114 && is_ascii_digit d then Some (d - 48) else None
named_register (r ∷ one ∷ d ∷ []) = if r == 114 && one == 49 && is_ascii_digit d && nat_lt d 54 then Some (d - 38) else None
named_register other = None

abbrev pub register_in : Token → Result ℕ AsmKind
register_in (Name name) = known UnknownName (named_register name)
register_in other = Err BadToken

-- `none`, `ro` or `rw`
abbrev pub named_protection : List ℕ → Option Protection
named_protection word = if bytes_eq word (codes "none") then Some Nothing else (if bytes_eq word (codes "ro") then Some ReadOnly else (if bytes_eq word (codes "rw") then Some ReadWrite else None))

abbrev pub protection_in : Token → Result Protection AsmKind
protection_in (Name name) = known UnknownName (named_protection name)
protection_in other = Err BadToken

-- a number from low to high
abbrev pub number_in : ℤ → ℤ → Token → Result ℤ AsmKind
number_in low high (Number z) = if int_lt z low || int_lt high z then Err BadNumber else Ok z
number_in low high other = Err BadToken

-- a number from 0 to high
abbrev pub natural_in : ℕ → Token → Result ℕ AsmKind
natural_in high token = do
  z ← number_in (pos 0) (pos high) token
  Ok (unsigned_abs z)

-- a multiple of 4 from 0 to high
abbrev pub offset_in : ℕ → Token → Result ℕ AsmKind
offset_in high token = do
  n ← natural_in high token
  if n % 4 == 0 then Ok n else Err BadNumber

-- a label's name, by the immediate that leads to it
abbrev pub label_in : (List ℕ → Option ℤ) → Token → Result ℤ AsmKind
label_in immediate_of (Name name) = known NoLabel (immediate_of name)
label_in immediate_of other = Err BadToken

-- ---- the fields

abbrev pub mark_at : ℕ → List Lexeme → Result (ℕ × List Lexeme) Misfit
mark_at mark lexemes = field_at (mark_in mark) lexemes

abbrev pub register_at : List Lexeme → Result (ℕ × List Lexeme) Misfit
register_at lexemes = field_at register_in lexemes

abbrev pub protection_at : List Lexeme → Result (Protection × List Lexeme) Misfit
protection_at lexemes = field_at protection_in lexemes

abbrev pub number_at : ℤ → ℤ → List Lexeme → Result (ℤ × List Lexeme) Misfit
number_at low high lexemes = field_at (number_in low high) lexemes

-- a number from -32768 to 32767
abbrev pub immediate_at : List Lexeme → Result (ℤ × List Lexeme) Misfit
immediate_at lexemes = number_at (negsuc 32767) (pos 32767) lexemes

abbrev pub natural_at : ℕ → List Lexeme → Result (ℕ × List Lexeme) Misfit
natural_at high lexemes = field_at (natural_in high) lexemes

-- the offset of a word in its segment: a multiple of 4 from 0 to 1073741820
abbrev pub offset_at : List Lexeme → Result (ℕ × List Lexeme) Misfit
offset_at lexemes = field_at (offset_in 1073741820) lexemes

abbrev pub label_at : (List ℕ → Option ℤ) → List Lexeme → Result (ℤ × List Lexeme) Misfit
label_at immediate_of lexemes = field_at (label_in immediate_of) lexemes

-- ---- what a call of the code's cursor says

-- the value and the tokens that are left are what reading gives
abbrev pub Reads : {A : Type 0} → Result A Misfit → List Lexeme → Result (A × List Lexeme) Misfit → Type 0
Reads (Ok x) left read = read ≡ Ok (x, left)
Reads (Err m) left read = read ≡ Err m

-- this mark and the tokens that are left are what reading gives
abbrev pub Passes : {A : Type 0} → ℕ → Result A Misfit → List Lexeme → Result (ℕ × List Lexeme) Misfit → Type 0
Passes mark (Ok x) left read = read ≡ Ok (mark, left)
Passes mark (Err m) left read = read ≡ Err m
