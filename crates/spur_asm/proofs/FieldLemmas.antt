-- Each field both ways over the lexemes of a line: where its token stands, it is read and the lexemes behind it are left; and what is read
-- stands there as its token.
use Rattle.std.proofs.Common.{◌≡◌, ℕ, ◌%◌, ◌<◌, ◌≤◌, Bool, true, false, List, [], ◌∷◌, Option, Some, Result, Ok, Err, refl, ap, subst, ◌∙◌, ℤ, pos, negsuc, ◌≤ℤ◌}
use Rattle.std.proofs.lemmas.Bool.{eq-eqb}
use Rattle.spur_addr.specs.declared.page_entry.Protection.{Protection}
use Rattle.spur_isa.specs.Ranges.{IsSigned16}
use Rattle.spur_asm.specs.Token.{Token, Name, Number, Mark}
use Rattle.spur_asm.specs.Item.{register, protection_text, natural}
use Rattle.spur_asm.specs.Lexeme.{Lexeme}
use Rattle.spur_asm.specs.Fields.{◌>>=◌, taken, field_at, unwanted, leftover, end_at, mark_in, register_in, protection_in, number_in, natural_in, offset_in, label_in, mark_at, register_at, protection_at, number_at, immediate_at, natural_at, offset_at, label_at}
use Rattle.spur_asm.specs.declared.fault.AsmKind.{AsmKind}
use Rattle.spur_asm.specs.declared.fault.Misfit.{Misfit}
use Rattle.spur_asm.proofs.Levels.{AreTokens}
use Rattle.spur_asm.proofs.ValueLemmas.{bind_ok, mark_is, register_read, register_is, protection_read, protection_is, number_read, number_is, natural_read, natural_is, offset_read, offset_is, label_read, label_is}

-- ---- any field

-- what follows a token that stands there, whatever is read behind it
abbrev pub Onward : {A B : Type 0} → List Token → (A × List Lexeme → Result B Misfit) → A → Result B Misfit → Type 0
Onward tokens f x r = (rest : List Lexeme) → AreTokens rest tokens → f (x, rest) ≡ r

-- the token stands first, and the rest is what stands behind it
abbrev pub IsFirst : List Lexeme → Token → List Lexeme → Type 0
IsFirst lexemes token rest = (tokens : List Token) → AreTokens rest tokens → AreTokens lexemes (token ∷ tokens)

-- the same, where the token is this one
first_as : (lexemes : List Lexeme) (token same : Token) (rest : List Lexeme) → token ≡ same → IsFirst lexemes token rest → IsFirst lexemes same rest
first_as lexemes token same rest is stands = subst (λ (t : Token). IsFirst lexemes t rest) is stands

field_read : {A B : Type 0} (value_of : Token → Result A AsmKind) (token : Token) (x : A) (tokens : List Token) (lexemes : List Lexeme) (f : A × List Lexeme → Result B Misfit) (r : Result B Misfit)
    → value_of token ≡ Ok x → AreTokens lexemes (token ∷ tokens) → Onward tokens f x r → (field_at value_of lexemes >>= f) ≡ r
field_read value_of token x tokens [] f r value are next = absurd are
field_read value_of token x tokens (one ∷ rest) f r value are next = rw (are.0.token_is, value, are.0.free) (next rest are.1)

-- a field that was read: the token that it is
record IsField {A : Type 0} (value_of : Token → Result A AsmKind) (lexemes : List Lexeme) (x : A) (rest : List Lexeme) : Type 0 where
  token : Token
  value : value_of token ≡ Ok x
  stands : IsFirst lexemes token rest

taken_is : {A : Type 0} (value_of : Token → Result A AsmKind) (one : Lexeme) (lexemes : List Lexeme) (token : Result Token AsmKind) (value : Result A AsmKind) (glued : Bool) (x : A) (rest : List Lexeme)
    → one.token ≡ token → (token >>= value_of) ≡ value → one.glued ≡ glued → taken (record one { glued = glued }) value lexemes ≡ Ok (x, rest) → IsField value_of (one ∷ lexemes) x rest
taken_is value_of one lexemes token (Err kind) glued x rest is stood free e = absurd cc
taken_is value_of one lexemes token (Ok y) true x rest is stood free e = absurd cc
taken_is value_of one lexemes (Err kind) (Ok y) false x rest is stood free e = absurd cc
taken_is {A} value_of one lexemes (Ok token) (Ok y) false x rest is stood free e =
    let pair : (y, lexemes) ≡ (x, rest) = cc in
    record {
      token = token;
      value = stood ∙ ap (λ (p : A × List Lexeme). Ok p.0) pair;
      stands = λ tokens are. (record { token_is = is; free = free }, rw (ap (λ (p : A × List Lexeme). p.1) pair) are);
    }

field_is : {A : Type 0} (value_of : Token → Result A AsmKind) (lexemes : List Lexeme) (x : A) (rest : List Lexeme) → field_at value_of lexemes ≡ Ok (x, rest) → IsField value_of lexemes x rest
field_is value_of [] x rest e = absurd cc
field_is value_of (one ∷ lexemes) x rest e = taken_is value_of one lexemes one.token (one.token >>= value_of) one.glued x rest refl refl refl e

field_then : {A B : Type 0} (value_of : Token → Result A AsmKind) (lexemes : List Lexeme) (f : A × List Lexeme → Result B Misfit) (y : B) → (field_at value_of lexemes >>= f) ≡ Ok y
    → (P : Type 0) → ((x : A) (token : Token) (rest : List Lexeme) → value_of token ≡ Ok x → IsFirst lexemes token rest → f (x, rest) ≡ Ok y → P) → P
field_then value_of lexemes f y e P next =
    let s = bind_ok (field_at value_of lexemes) f y e in
    let is = field_is value_of lexemes s.value.0 s.value.1 s.is in
    next s.value.0 is.token s.value.1 is.value is.stands s.next

-- ---- the end of a line

pub end_read : {A : Type 0} (value : A) (lexemes : List Lexeme) → AreTokens lexemes [] → end_at value lexemes ≡ Ok value
end_read value [] are = refl
end_read value (one ∷ lexemes) are = absurd are

leftover_fails : {A : Type 0} (one : Lexeme) (token : Result Token AsmKind) (b : A) → leftover one (token >>= unwanted) ≡ Ok b → ⊥
leftover_fails one (Ok token) b e = cc
leftover_fails one (Err kind) b e = cc

pub end_is : {A : Type 0} (a b : A) (lexemes : List Lexeme) → end_at a lexemes ≡ Ok b → AreTokens lexemes [] × (a ≡ b)
end_is a b [] e = (tt, cc)
end_is a b (one ∷ lexemes) e = absurd (leftover_fails one one.token b e)

-- ---- marks

mark_value : (wanted : ℕ) → mark_in wanted (Mark wanted) ≡ Ok wanted
mark_value wanted = rw (eq-eqb wanted wanted refl) refl

pub mark_field : {A : Type 0} (mark : ℕ) (tokens : List Token) (lexemes : List Lexeme) (f : ℕ × List Lexeme → Result A Misfit) (r : Result A Misfit)
    → AreTokens lexemes (Mark mark ∷ tokens) → Onward tokens f mark r → (mark_at mark lexemes >>= f) ≡ r
mark_field mark tokens lexemes f r are next = field_read (mark_in mark) (Mark mark) mark tokens lexemes f r (mark_value mark) are next

pub mark_then : {A : Type 0} (mark : ℕ) (lexemes : List Lexeme) (f : ℕ × List Lexeme → Result A Misfit) (y : A) → (mark_at mark lexemes >>= f) ≡ Ok y
    → (P : Type 0) → ((x : ℕ) (rest : List Lexeme) → IsFirst lexemes (Mark mark) rest → f (x, rest) ≡ Ok y → P) → P
mark_then mark lexemes f y e P next = field_then (mark_in mark) lexemes f y e P (λ x token rest value stands e.
    next x rest (first_as lexemes token (Mark mark) rest (mark_is mark token x value) stands) e)

-- ---- registers

pub register_field : {A : Type 0} (a : ℕ) (tokens : List Token) (lexemes : List Lexeme) (f : ℕ × List Lexeme → Result A Misfit) (r : Result A Misfit)
    → a < 16 → AreTokens lexemes (register a ∷ tokens) → Onward tokens f a r → (register_at lexemes >>= f) ≡ r
register_field a tokens lexemes f r below are next = field_read register_in (register a) a tokens lexemes f r (register_read a below) are next

pub register_then : {A : Type 0} (lexemes : List Lexeme) (f : ℕ × List Lexeme → Result A Misfit) (y : A) → (register_at lexemes >>= f) ≡ Ok y
    → (P : Type 0) → ((a : ℕ) (rest : List Lexeme) → a < 16 → IsFirst lexemes (register a) rest → f (a, rest) ≡ Ok y → P) → P
register_then lexemes f y e P next = field_then register_in lexemes f y e P (λ a token rest value stands e.
    let is = register_is token a value in
    next a rest is.0 (first_as lexemes token (register a) rest is.1 stands) e)

-- ---- protections

pub protection_field : {A : Type 0} (prot : Protection) (tokens : List Token) (lexemes : List Lexeme) (f : Protection × List Lexeme → Result A Misfit) (r : Result A Misfit)
    → AreTokens lexemes (Name (protection_text prot) ∷ tokens) → Onward tokens f prot r → (protection_at lexemes >>= f) ≡ r
protection_field prot tokens lexemes f r are next = field_read protection_in (Name (protection_text prot)) prot tokens lexemes f r (protection_read prot) are next

pub protection_then : {A : Type 0} (lexemes : List Lexeme) (f : Protection × List Lexeme → Result A Misfit) (y : A) → (protection_at lexemes >>= f) ≡ Ok y
    → (P : Type 0) → ((prot : Protection) (rest : List Lexeme) → IsFirst lexemes (Name (protection_text prot)) rest → f (prot, rest) ≡ Ok y → P) → P
protection_then lexemes f y e P next = field_then protection_in lexemes f y e P (λ prot token rest value stands e.
    next prot rest (first_as lexemes token (Name (protection_text prot)) rest (protection_is token prot value) stands) e)

-- ---- numbers

pub number_field : {A : Type 0} (low high z : ℤ) (tokens : List Token) (lexemes : List Lexeme) (f : ℤ × List Lexeme → Result A Misfit) (r : Result A Misfit)
    → low ≤ℤ z → z ≤ℤ high → AreTokens lexemes (Number z ∷ tokens) → Onward tokens f z r → (number_at low high lexemes >>= f) ≡ r
number_field low high z tokens lexemes f r least most are next = field_read (number_in low high) (Number z) z tokens lexemes f r (number_read low high z least most) are next

pub number_then : {A : Type 0} (low high : ℤ) (lexemes : List Lexeme) (f : ℤ × List Lexeme → Result A Misfit) (y : A) → (number_at low high lexemes >>= f) ≡ Ok y
    → (P : Type 0) → ((z : ℤ) (rest : List Lexeme) → low ≤ℤ z → z ≤ℤ high → IsFirst lexemes (Number z) rest → f (z, rest) ≡ Ok y → P) → P
number_then low high lexemes f y e P next = field_then (number_in low high) lexemes f y e P (λ z token rest value stands e.
    let is = number_is low high token z value in
    next z rest is.least is.most (first_as lexemes token (Number z) rest is.is stands) e)

pub immediate_field : {A : Type 0} (i : ℤ) (tokens : List Token) (lexemes : List Lexeme) (f : ℤ × List Lexeme → Result A Misfit) (r : Result A Misfit)
    → IsSigned16 i → AreTokens lexemes (Number i ∷ tokens) → Onward tokens f i r → (immediate_at lexemes >>= f) ≡ r
immediate_field i tokens lexemes f r fits are next = number_field (negsuc 32767) (pos 32767) i tokens lexemes f r fits.least fits.most are next

pub immediate_then : {A : Type 0} (lexemes : List Lexeme) (f : ℤ × List Lexeme → Result A Misfit) (y : A) → (immediate_at lexemes >>= f) ≡ Ok y
    → (P : Type 0) → ((i : ℤ) (rest : List Lexeme) → IsSigned16 i → IsFirst lexemes (Number i) rest → f (i, rest) ≡ Ok y → P) → P
immediate_then lexemes f y e P next = number_then (negsuc 32767) (pos 32767) lexemes f y e P (λ i rest least most stands e.
    next i rest (record { least = least; most = most }) stands e)

pub natural_field : {A : Type 0} (high n : ℕ) (tokens : List Token) (lexemes : List Lexeme) (f : ℕ × List Lexeme → Result A Misfit) (r : Result A Misfit)
    → n ≤ high → AreTokens lexemes (natural n ∷ tokens) → Onward tokens f n r → (natural_at high lexemes >>= f) ≡ r
natural_field high n tokens lexemes f r most are next = field_read (natural_in high) (natural n) n tokens lexemes f r (natural_read high n most) are next

pub natural_then : {A : Type 0} (high : ℕ) (lexemes : List Lexeme) (f : ℕ × List Lexeme → Result A Misfit) (y : A) → (natural_at high lexemes >>= f) ≡ Ok y
    → (P : Type 0) → ((n : ℕ) (rest : List Lexeme) → n ≤ high → IsFirst lexemes (natural n) rest → f (n, rest) ≡ Ok y → P) → P
natural_then high lexemes f y e P next = field_then (natural_in high) lexemes f y e P (λ n token rest value stands e.
    let is = natural_is high token n value in
    next n rest is.0 (first_as lexemes token (natural n) rest is.1 stands) e)

pub offset_field : {A : Type 0} (n : ℕ) (tokens : List Token) (lexemes : List Lexeme) (f : ℕ × List Lexeme → Result A Misfit) (r : Result A Misfit)
    → n ≤ 1073741820 → n % 4 ≡ 0 → AreTokens lexemes (natural n ∷ tokens) → Onward tokens f n r → (offset_at lexemes >>= f) ≡ r
offset_field n tokens lexemes f r most aligned are next = field_read (offset_in 1073741820) (natural n) n tokens lexemes f r (offset_read 1073741820 n most aligned) are next

pub offset_then : {A : Type 0} (lexemes : List Lexeme) (f : ℕ × List Lexeme → Result A Misfit) (y : A) → (offset_at lexemes >>= f) ≡ Ok y
    → (P : Type 0) → ((n : ℕ) (rest : List Lexeme) → n ≤ 1073741820 → n % 4 ≡ 0 → IsFirst lexemes (natural n) rest → f (n, rest) ≡ Ok y → P) → P
offset_then lexemes f y e P next = field_then (offset_in 1073741820) lexemes f y e P (λ n token rest value stands e.
    let is = offset_is 1073741820 token n value in
    next n rest is.most is.aligned (first_as lexemes token (natural n) rest is.is stands) e)

-- ---- labels

pub label_field : {A : Type 0} (immediate_of : List ℕ → Option ℤ) (name : List ℕ) (i : ℤ) (tokens : List Token) (lexemes : List Lexeme) (f : ℤ × List Lexeme → Result A Misfit) (r : Result A Misfit)
    → immediate_of name ≡ Some i → AreTokens lexemes (Name name ∷ tokens) → Onward tokens f i r → (label_at immediate_of lexemes >>= f) ≡ r
label_field immediate_of name i tokens lexemes f r leads are next = field_read (label_in immediate_of) (Name name) i tokens lexemes f r (label_read immediate_of name i leads) are next

pub label_then : {A : Type 0} (immediate_of : List ℕ → Option ℤ) (lexemes : List Lexeme) (f : ℤ × List Lexeme → Result A Misfit) (y : A) → (label_at immediate_of lexemes >>= f) ≡ Ok y
    → (P : Type 0) → ((i : ℤ) (name : List ℕ) (rest : List Lexeme) → immediate_of name ≡ Some i → IsFirst lexemes (Name name) rest → f (i, rest) ≡ Ok y → P) → P
label_then immediate_of lexemes f y e P next = field_then (label_in immediate_of) lexemes f y e P (λ i token rest value stands e.
    let is = label_is immediate_of token i value in
    next i is.name rest is.leads (first_as lexemes token (Name is.name) rest is.is stands) e)
