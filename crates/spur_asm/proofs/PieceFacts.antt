-- The pieces of a line are what the cursor finds, and a piece's text alone tells its token.
use Rattle.std.proofs.Common.{◌≡◌, ℕ, suc, ◌+◌, Bool, true, false, ◌&&◌, ◌==◌, cond, List, [], ◌∷◌, ◌++◌, length, drop, Option, Some, None, Result, Ok, Err, refl, sym, ap, subst, ◌∙◌, arith, length-append}
use Rattle.std.proofs.lemmas.Bool.Decides.{nat_tests}
use Rattle.std.specs.Char.{is_ascii_graphic}
use Rattle.std.specs.List.{list_all, prefix_len, take_while}
use Rattle.spur_asm.specs.Bytes.{is_blank, is_mark, is_name_byte, is_name_start, is_number_byte, is_number_start}
use Rattle.spur_asm.specs.Found.{touches_last}
use Rattle.spur_asm.specs.Lexeme.{Lexeme, begins_word, lexeme_at, lexemes_from, more_of, named, numbered, token_at}
use Rattle.spur_asm.specs.Number.{numeral_value}
use Rattle.spur_asm.specs.Pieces.{Piece, IsPiece, HasPieces, EndsPiece, goes_on, is_word_text}
use Rattle.spur_asm.specs.Token.{Token, Mark}
use Rattle.spur_asm.specs.declared.fault.AsmKind.{AsmKind}
use Rattle.spur_asm.specs.declared.fault.AsmKind.TheVariants.{BadByte, BadToken}
use Rattle.spur_asm.proofs.CutLemmas.{Stops, front_taken, front_dropped}
use Rattle.spur_asm.proofs.TokenLaw.{lexemes_skip, lexemes_gap, lexemes_blank, word_behind}

-- ---- how far a piece goes

-- `goes_on`, by what its first byte is
abbrev pub go : Bool → Bool → ℕ → Bool
go s n c = cond s (is_name_byte c) (cond n (is_number_byte c) false)

abbrev pub Ends : Bool → Bool → List ℕ → Type 0
Ends s n [] = Unit {0}
Ends s n (c ∷ bytes) = go s n c ≡ false

abbrev pub more_by : Bool → Bool → List ℕ → ℕ
more_by s n bytes = cond s (prefix_len is_name_byte bytes) (cond n (prefix_len is_number_byte bytes) 0)

name_ends : (n : Bool) (rest : List ℕ) → Ends true n rest → Stops is_name_byte rest
name_ends n [] e = tt
name_ends n (c ∷ rest) e = e

number_ends : (rest : List ℕ) → Ends false true rest → Stops is_number_byte rest
number_ends [] e = tt
number_ends (c ∷ rest) e = e

pub nothing_more : (more : List ℕ) → list_all (go false false) more ≡ true → more ≡ []
nothing_more [] all = refl
nothing_more (c ∷ more) all = absurd cc

dropped_by : (s n : Bool) (more rest : List ℕ) → list_all (go s n) more ≡ true → Ends s n rest → drop (more_by s n (more ++ rest)) (more ++ rest) ≡ rest
dropped_by true n more rest all ends = front_dropped is_name_byte more rest all (name_ends n rest ends)
dropped_by false true more rest all ends = front_dropped is_number_byte more rest all (number_ends rest ends)
dropped_by false false more rest all ends = rw (nothing_more more all) refl

ends_as : (b : ℕ) (rest : List ℕ) → EndsPiece b rest → Ends (is_name_start b) (is_number_start b) rest
ends_as b [] e = tt
ends_as b (c ∷ rest) e = e

-- what stands behind a piece is what the cursor leaves
pub piece_dropped : (b : ℕ) (more rest : List ℕ) → list_all (goes_on b) more ≡ true → EndsPiece b rest → drop (more_of b (more ++ rest)) (more ++ rest) ≡ rest
piece_dropped b more rest all ends = dropped_by (is_name_start b) (is_number_start b) more rest all (ends_as b rest ends)

token_by : (s n : Bool) (b : ℕ) (more rest : List ℕ) → list_all (go s n) more ≡ true → Ends s n rest
    → cond s (named (b ∷ take_while is_name_byte (more ++ rest))) (cond n (numbered (numeral_value (b ∷ take_while is_number_byte (more ++ rest)))) (cond (is_mark b) (Ok (Mark b)) (cond (is_ascii_graphic b) (Err BadToken) (Err BadByte))))
    ≡ cond s (named (b ∷ more)) (cond n (numbered (numeral_value (b ∷ more))) (cond (is_mark b) (Ok (Mark b)) (cond (is_ascii_graphic b) (Err BadToken) (Err BadByte))))
token_by true n b more rest all ends = ap (λ (text : List ℕ). named (b ∷ text)) (front_taken is_name_byte more rest all (name_ends n rest ends))
token_by false true b more rest all ends = ap (λ (text : List ℕ). numbered (numeral_value (b ∷ text))) (front_taken is_number_byte more rest all (number_ends rest ends))
token_by false false b more rest all ends = refl

-- the token that a whole piece is
abbrev pub token_of_text : List ℕ → Result Token AsmKind
token_of_text [] = Err BadToken
token_of_text (b ∷ more) = cond (is_name_start b) (named (b ∷ more)) (cond (is_number_start b) (numbered (numeral_value (b ∷ more))) (cond (is_mark b) (Ok (Mark b)) (cond (is_ascii_graphic b) (Err BadToken) (Err BadByte))))

pub piece_token : (b : ℕ) (more rest : List ℕ) → list_all (goes_on b) more ≡ true → EndsPiece b rest → token_at b (more ++ rest) ≡ token_of_text (b ∷ more)
piece_token b more rest all ends = token_by (is_name_start b) (is_number_start b) b more rest all (ends_as b rest ends)

-- ---- the cursor finds the pieces

-- what the cursor tells of a piece: its token, whether it lacks its blank, and how many bytes are left from it on
pub record IsFound (end : ℕ) (last : Option Piece) (lexeme : Lexeme) (piece : Piece) : Type 0 where
  pub token_is : lexeme.token ≡ token_of_text piece.text
  pub glued_is : lexeme.glued ≡ touches_last last piece
  pub left_is : lexeme.left + piece.before ≡ end
  pub is_piece : IsPiece piece.text []

abbrev pub AreFound : ℕ → Option Piece → List Lexeme → List Piece → Type 0
AreFound end last [] [] = Unit {0}
AreFound end last (lexeme ∷ lexemes) (piece ∷ pieces) = IsFound end last lexeme piece × AreFound end (Some piece) lexemes pieces
AreFound end last lexemes pieces = ⊥

-- the piece before ended here, and tells whether a name or a number did
abbrev EndsAt : Option Piece → ℕ → Bool → Type 0
EndsAt None at word = word ≡ false
EndsAt (Some last) at word = (last.before + length last.text ≡ at) × (word ≡ is_word_text last.text)

same_place : (at n : ℕ) → (at == at + suc n) ≡ false
same_place at n = grind (arith, nat_tests)

at_place : (at : ℕ) → (at == at + 0) ≡ true
at_place at = grind (arith, nat_tests)

and_false : (a : Bool) → (a && false) ≡ false
and_false true = refl
and_false false = refl

and_true : (a : Bool) → (a && true) ≡ a
and_true true = refl
and_true false = refl

glue : (last : Option Piece) (at : ℕ) (word : Bool) (gap : List ℕ) (piece : Piece) → EndsAt last at word → piece.before ≡ at + length gap
    → (word_behind gap word && is_word_text piece.text) ≡ touches_last last piece
glue None at word [] piece ends stands = rw ends refl
glue None at word (b ∷ gap) piece ends stands = refl
glue (Some last) at word [] piece ends stands =
    let here : (at == at + 0) ≡ true = at_place at in
    rw (ends.1, ends.0, stands, here) (sym (and_true (is_word_text last.text && is_word_text piece.text)))
glue (Some last) at word (b ∷ gap) piece ends stands =
    let apart : (at == at + suc (length gap)) ≡ false = same_place at (length gap) in
    rw (ends.0, stands, apart) (sym (and_false (is_word_text last.text && is_word_text piece.text)))

found_first : (end at : ℕ) (word : Bool) (last : Option Piece) (piece : Piece) (pieces : List Piece) (first : ℕ) (more rest : List ℕ)
    → piece.text ≡ first ∷ more → is_blank first ≡ false → list_all (goes_on first) more ≡ true → EndsPiece first rest
    → (word && begins_word first) ≡ touches_last last piece → length (first ∷ (more ++ rest)) + piece.before ≡ end
    → AreFound end (Some piece) (lexemes_from 0 (begins_word first) rest) pieces
    → AreFound end last (lexemes_from 0 word (first ∷ (more ++ rest))) (piece ∷ pieces)
found_first end at word last piece pieces first more rest is solid whole ends glued left others =
    let behind : lexemes_from (more_of first (more ++ rest)) (begins_word first) (more ++ rest) ≡ lexemes_from 0 (begins_word first) rest =
    lexemes_skip (more_of first (more ++ rest)) (begins_word first) (more ++ rest)
    ∙ ap (λ (bs : List ℕ). lexemes_from 0 (begins_word first) bs) (piece_dropped first more rest whole ends) in
    let found : IsFound end last (lexeme_at word first (more ++ rest)) piece = record {
      token_is = piece_token first more rest whole ends ∙ ap token_of_text (sym is);
      glued_is = glued;
      left_is = left;
      is_piece = record { first = first; more = more; is = is; solid = solid; whole = whole; ends = tt };
    } in
    rw solid (found, subst (λ (ls : List Lexeme). AreFound end (Some piece) ls pieces) (sym behind) others)

word_text : (piece : Piece) (first : ℕ) (more : List ℕ) → piece.text ≡ first ∷ more → begins_word first ≡ is_word_text piece.text
word_text piece first more is = rw is refl

pub found_from : (pieces : List Piece) (end at : ℕ) (word : Bool) (last : Option Piece) (bytes : List ℕ) → HasPieces pieces at bytes → at + length bytes ≡ end → EndsAt last at word
    → AreFound end last (lexemes_from 0 word bytes) pieces
found_from [] end at word last bytes h size ends = rw (lexemes_blank bytes word h) tt
found_from (piece ∷ pieces) end at word last bytes h size ends =
    let p = h.is_piece in
    let text : bytes ≡ h.gap ++ (p.first ∷ (p.more ++ h.rest)) = h.is ∙ ap (λ (t : List ℕ). h.gap ++ (t ++ h.rest)) p.is in
    let long : length bytes ≡ length h.gap + length (p.first ∷ (p.more ++ h.rest)) = ap (λ (bs : List ℕ). length bs) text ∙ length-append h.gap (p.first ∷ (p.more ++ h.rest)) in
    let text_long : length piece.text ≡ length (p.first ∷ p.more) = ap (λ (bs : List ℕ). length bs) p.is in
    let rest_long : length (p.more ++ h.rest) ≡ length p.more + length h.rest = length-append p.more h.rest in
    let stands = h.stands in
    let others : AreFound end (Some piece) (lexemes_from 0 (begins_word p.first) h.rest) pieces =
    found_from pieces end (piece.before + length piece.text) (begins_word p.first) (Some piece) h.rest h.others (omega (arith, stands, long, text_long, rest_long, size)) (refl, word_text piece p.first p.more p.is) in
    let first = found_first end at (word_behind h.gap word) last piece pieces p.first p.more h.rest p.is p.solid p.whole p.ends
    (ap (λ (w : Bool). word_behind h.gap word && w) (word_text piece p.first p.more p.is) ∙ glue last at word h.gap piece ends h.stands)
    (omega (arith, stands, long, size)) others in
    rw (text, lexemes_gap h.gap (p.first ∷ (p.more ++ h.rest)) word h.blank) first
