-- The text of a token is read as this token, and what is read is one's text.
use Rattle.std.proofs.Common.{◌≡◌, ℕ, ◌≤◌, Bool, true, false, not, ◌||◌, cond, ltb, List, [], ◌∷◌, ◌++◌, length, take, drop, Option, Some, None, Result, Ok, Err, refl, sym, ap, ◌∙◌, subst, ℤ}
use Rattle.std.proofs.lemmas.Bool.{and_from, and_parts, le-ltb, ltb-false, or_from, or_left, or_right}
use Rattle.std.specs.Char.{is_ascii_graphic}
use Rattle.std.specs.List.{list_all, prefix_len, take_while}
use Rattle.spur_asm.specs.Bytes.{is_blank, is_mark, is_name_byte, is_name_start, is_number_byte, is_number_start, is_semicolon}
use Rattle.spur_asm.specs.Lexeme.{begins_word, more_of, named, numbered, token_at}
use Rattle.spur_asm.specs.Number.{numeral_value}
use Rattle.spur_asm.specs.Spelling.{IsName, IsText}
use Rattle.spur_asm.specs.Token.{Token, Name, Number, Mark, is_word}
use Rattle.spur_asm.specs.declared.fault.AsmKind.{AsmKind}
use Rattle.spur_asm.specs.declared.fault.AsmKind.TheVariants.{BadByte, BadToken}
use Rattle.spur_asm.proofs.ByteLemmas.{mark_no_blank, mark_no_name_start, mark_no_number_start, mark_no_semicolon, name_start_no_blank, name_start_no_semicolon, name_byte_no_semicolon, number_start_no_blank, number_start_no_name_start, number_start_no_semicolon, number_byte_no_semicolon, no_number_byte, blank_no_semicolon}
use Rattle.spur_asm.proofs.CutLemmas.{Stops, front_taken, front_dropped, front_passes}
use Rattle.spur_asm.proofs.NumberLemmas.{number_read, number_is, number_text}

-- ---- what is spelled is read

-- the token is read from this byte and those behind it, of which it leaves the rest
pub record IsRead (token : Token) (b : ℕ) (bytes rest : List ℕ) : Type 0 where
  pub token_is : token_at b bytes ≡ Ok token
  pub word : begins_word b ≡ is_word token
  pub left : drop (more_of b bytes) bytes ≡ rest
  pub no_blank : is_blank b ≡ false

name_read : (first : ℕ) (more rest : List ℕ) → is_name_start first ≡ true → list_all is_name_byte more ≡ true → length (first ∷ more) ≤ 64
    → Stops is_name_byte rest → IsRead (Name (first ∷ more)) first (more ++ rest) rest
name_read first more rest starts on short stops = record {
  token_is = rw (starts, front_taken is_name_byte more rest on stops, le-ltb 64 (length (first ∷ more)) short) refl;
  word = or_left (is_name_start first) (is_number_start first) starts;
  left = rw starts (front_dropped is_name_byte more rest on stops);
  no_blank = name_start_no_blank first starts;
}

number_stops : (rest : List ℕ) → Stops is_name_byte rest → Stops is_number_byte rest
number_stops [] stops = tt
number_stops (b ∷ rest) stops = no_number_byte b stops

number_token_read : (first : ℕ) (more rest : List ℕ) (z : ℤ) → is_number_start first ≡ true → list_all is_number_byte more ≡ true
    → numeral_value (first ∷ more) ≡ Some z → Stops is_number_byte rest → IsRead (Number z) first (more ++ rest) rest
number_token_read first more rest z starts on value stops =
    let no_name = number_start_no_name_start first starts in
    record {
      token_is = rw (no_name, starts, front_taken is_number_byte more rest on stops, value) refl;
      word = or_right (is_name_start first) (is_number_start first) starts;
      left = rw (no_name, starts) (front_dropped is_number_byte more rest on stops);
      no_blank = number_start_no_blank first starts;
    }

mark_read : (mark : ℕ) (rest : List ℕ) → is_mark mark ≡ true → IsRead (Mark mark) mark rest rest
mark_read mark rest e =
    let no_name = mark_no_name_start mark e in
    let no_number = mark_no_number_start mark e in
    record {
      token_is = rw (no_name, no_number, e) refl;
      word = or_from (is_name_start mark) (is_number_start mark) no_name no_number;
      left = rw (no_name, no_number) refl;
      no_blank = mark_no_blank mark e;
    }

-- the text is not empty, and the token is read from it
pub record Reads (token : Token) (text rest : List ℕ) : Type 0 where
  pub first : ℕ
  pub more : List ℕ
  pub is : text ≡ first ∷ more
  pub read : IsRead token first (more ++ rest) rest

pub text_read : (token : Token) (text rest : List ℕ) → IsText token text → (is_word token ≡ true → Stops is_name_byte rest) → Reads token text rest
text_read (Name name) text rest t ends =
    let n = t.1 in
    let short : length (n.first ∷ n.more) ≤ 64 = subst (λ (v : List ℕ). length v ≤ 64) n.is n.short in
    record {
      first = n.first;
      more = n.more;
      is = t.0 ∙ n.is;
      read = subst (λ (v : List ℕ). IsRead (Name v) n.first (n.more ++ rest) rest) (sym n.is) (name_read n.first n.more rest n.starts n.goes_on short (ends refl));
    }
text_read (Number z) text rest t ends =
    let n = number_text text z t in
    let value : numeral_value (n.first ∷ n.more) ≡ Some z = ap numeral_value (sym n.is) ∙ number_read text z t in
    record {
      first = n.first;
      more = n.more;
      is = n.is;
      read = number_token_read n.first n.more rest z n.starts n.goes_on value (number_stops rest (ends refl));
    }
text_read (Mark mark) text rest t ends = record { first = mark; more = []; is = t.0; read = mark_read mark rest t.1 }

-- ---- what is read is spelled

-- the text of a token, and whether it is a name or a number
pub record TextIs (token : Token) (text : List ℕ) (word : Bool) : Type 0 where
  pub is_text : IsText token text
  pub word_is : word ≡ is_word token

ok_is : (x y : Token) → ◌≡◌ {A = Result Token AsmKind} (Ok x) (Ok y) → x ≡ y
ok_is x y e = cc

name_is : (u : Bool) (b : ℕ) (more : List ℕ) (token : Token) → is_name_start b ≡ true → list_all is_name_byte more ≡ true
    → ltb 64 (length (b ∷ more)) ≡ u → ◌≡◌ {A = Result Token AsmKind} (cond u (Err BadToken) (Ok (Name (b ∷ more)))) (Ok token) → TextIs token (b ∷ more) true
name_is true b more token starts on short e = absurd cc
name_is false b more token starts on short e =
    let name : IsName (b ∷ more) = record { first = b; more = more; is = refl; starts = starts; goes_on = on; short = ltb-false 64 (length (b ∷ more)) short } in
    subst (λ (t : Token). TextIs t (b ∷ more) true) (ok_is (Name (b ∷ more)) token e) (record { is_text = (refl, name); word_is = refl })

number_token_is : (o : Option ℤ) (text : List ℕ) (token : Token) → numeral_value text ≡ o → numbered o ≡ Ok token → TextIs token text true
number_token_is None text token value e = absurd cc
number_token_is (Some z) text token value e =
    subst (λ (t : Token). TextIs t text true) (ok_is (Number z) token e) (record { is_text = number_is text z value; word_is = refl })

mark_is : (m g : Bool) (b : ℕ) (token : Token) → is_mark b ≡ m
    → ◌≡◌ {A = Result Token AsmKind} (cond m (Ok (Mark b)) (cond g (Err BadToken) (Err BadByte))) (Ok token) → TextIs token (b ∷ []) false
mark_is true g b token mark e = subst (λ (t : Token). TextIs t (b ∷ []) false) (ok_is (Mark b) token e) (record { is_text = (refl, mark); word_is = refl })
mark_is false true b token mark e = absurd cc
mark_is false false b token mark e = absurd cc

token_or : (s n m g : Bool) (b : ℕ) (bytes : List ℕ) (token : Token) → is_name_start b ≡ s → is_number_start b ≡ n → is_mark b ≡ m
    → cond s (named (b ∷ take_while is_name_byte bytes)) (cond n (numbered (numeral_value (b ∷ take_while is_number_byte bytes))) (cond m (Ok (Mark b)) (cond g (Err BadToken) (Err BadByte)))) ≡ Ok token
    → TextIs token (b ∷ take (cond s (prefix_len is_name_byte bytes) (cond n (prefix_len is_number_byte bytes) 0)) bytes) (s || n)
token_or true n m g b bytes token starts number mark e =
    name_is (ltb 64 (length (b ∷ take_while is_name_byte bytes))) b (take_while is_name_byte bytes) token starts (front_passes is_name_byte bytes) refl e
token_or false true m g b bytes token starts number mark e =
    number_token_is (numeral_value (b ∷ take_while is_number_byte bytes)) (b ∷ take_while is_number_byte bytes) token refl e
token_or false false m g b bytes token starts number mark e = mark_is m g b token mark e

-- the token at a byte has this byte's text, as far as it is read
pub token_is_text : (b : ℕ) (bytes : List ℕ) (token : Token) → token_at b bytes ≡ Ok token
    → TextIs token (b ∷ take (more_of b bytes) bytes) (begins_word b)
token_is_text b bytes token e =
    token_or (is_name_start b) (is_number_start b) (is_mark b) (is_ascii_graphic b) b bytes token refl refl refl e

-- ---- no token has a semicolon

-- whether a byte is no semicolon
abbrev pub is_plain : ℕ → Bool
is_plain b = not (is_semicolon b)

plain : (b : ℕ) → is_semicolon b ≡ false → is_plain b ≡ true
plain b e = rw e refl

all_plain : (p : ℕ → Bool) (bytes : List ℕ) → ((b : ℕ) → p b ≡ true → is_semicolon b ≡ false) → list_all p bytes ≡ true
    → list_all is_plain bytes ≡ true
all_plain p [] none passes = refl
all_plain p (b ∷ bytes) none passes =
    let parts = and_parts (p b) (list_all p bytes) passes in
    and_from (is_plain b) (list_all is_plain bytes) (plain b (none b parts.0)) (all_plain p bytes none parts.1)

pub blank_plain : (bytes : List ℕ) → list_all is_blank bytes ≡ true → list_all is_plain bytes ≡ true
blank_plain bytes e = all_plain is_blank bytes blank_no_semicolon e

pub text_plain : (token : Token) (text : List ℕ) → IsText token text → list_all is_plain text ≡ true
text_plain (Name name) text t =
    let n = t.1 in
    rw (t.0 ∙ n.is) (and_from (is_plain n.first) (list_all is_plain n.more) (plain n.first (name_start_no_semicolon n.first n.starts)) (all_plain is_name_byte n.more name_byte_no_semicolon n.goes_on))
text_plain (Number z) text t =
    let n = number_text text z t in
    rw n.is (and_from (is_plain n.first) (list_all is_plain n.more) (plain n.first (number_start_no_semicolon n.first n.starts)) (all_plain is_number_byte n.more number_byte_no_semicolon n.goes_on))
text_plain (Mark mark) text t = rw t.0 (and_from (is_plain mark) true (plain mark (mark_no_semicolon mark t.1)) refl)
