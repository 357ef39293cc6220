-- A line is cut into the tokens by which it is spelled, and only names and numbers can be glued.
use Rattle.std.proofs.Common.{◌≡◌, ◌≢◌, ℕ, zero, suc, Bool, true, false, ◌&&◌, cond, List, [], ◌∷◌, ◌++◌, take, drop, Result, Ok, Err, refl, sym, ap, ◌∙◌, subst, inl, inr}
use Rattle.std.proofs.lemmas.Bool.{and_from, and_parts, and_right, both_ways, eqb-true, not-false, or_from}
use Rattle.std.proofs.lemmas.List.{take-append-drop}
use Rattle.std.proofs.lemmas.List.Folds.{list_all-append}
use Rattle.std.specs.List.{before_first, list_all, prefix_len}
use Rattle.spur_asm.specs.Bytes.{is_blank, is_name_byte, is_name_start, is_number_start, is_semicolon}
use Rattle.spur_asm.specs.Lexeme.{Lexeme, begins_word, lexeme_at, lexemes_from, lexemes_of, more_of, token_at}
use Rattle.spur_asm.specs.Spelling.{AreBlank, HasTokens, IsComment, IsText, SpellsTokens}
use Rattle.spur_asm.specs.Token.{Token, Name, Number, Mark, is_word}
use Rattle.spur_asm.specs.declared.fault.AsmKind.{AsmKind}
use Rattle.spur_asm.proofs.ByteLemmas.{blank_no_name_byte, blank_no_name_start, blank_no_number_start, mark_no_name_byte}
use Rattle.spur_asm.proofs.CutLemmas.{Stops, front_taken, front_stops}
use Rattle.spur_asm.proofs.Levels.{AreFree, AreTokens, FreeLaw, IsSound, TokensLaw, is_mark_token}
use Rattle.spur_asm.proofs.TokenLemmas.{Reads, text_read, token_is_text, is_plain, blank_plain, text_plain}

-- ---- blanks

pub blank_begins_none : (b : ℕ) → is_blank b ≡ true → begins_word b ≡ false
blank_begins_none b e = or_from (is_name_start b) (is_number_start b) (blank_no_name_start b e) (blank_no_number_start b e)

pub blank_has_no_more : (b : ℕ) (bytes : List ℕ) → is_blank b ≡ true → more_of b bytes ≡ 0
blank_has_no_more b bytes e = rw (blank_no_name_start b e, blank_no_number_start b e) refl

-- the bytes that a token before has taken are passed over
pub lexemes_skip : (n : ℕ) (word : Bool) (bytes : List ℕ) → lexemes_from n word bytes ≡ lexemes_from 0 word (drop n bytes)
lexemes_skip zero word bytes = refl
lexemes_skip (suc n) word [] = refl
lexemes_skip (suc n) word (b ∷ bytes) = lexemes_skip n word bytes

-- whether a word ends just before what stands behind these blanks
abbrev pub word_behind : List ℕ → Bool → Bool
word_behind [] word = word
word_behind (b ∷ gap) word = false

pub lexemes_gap : (gap bytes : List ℕ) (word : Bool) → AreBlank gap → lexemes_from 0 word (gap ++ bytes) ≡ lexemes_from 0 (word_behind gap word) bytes
lexemes_gap [] bytes word blank = refl
lexemes_gap (b ∷ gap) bytes word blank =
    let parts = and_parts (is_blank b) (list_all is_blank gap) blank in
    rw (parts.0, blank_has_no_more b (gap ++ bytes) parts.0, blank_begins_none b parts.0) (lexemes_gap gap bytes false parts.1 ∙ ap (λ (w : Bool). lexemes_from 0 w bytes) (stays gap))
  where
    stays : (gap : List ℕ) → word_behind gap false ≡ false
    stays [] = refl
    stays (b ∷ gap) = refl

pub lexemes_blank : (bytes : List ℕ) (word : Bool) → AreBlank bytes → lexemes_from 0 word bytes ≡ []
lexemes_blank [] word blank = refl
lexemes_blank (b ∷ bytes) word blank =
    let parts = and_parts (is_blank b) (list_all is_blank bytes) blank in
    rw (parts.0, blank_has_no_more b bytes parts.0, blank_begins_none b parts.0) (lexemes_blank bytes false parts.1)

-- ---- what is spelled is read

blank_stops : (bytes : List ℕ) → AreBlank bytes → Stops is_name_byte bytes
blank_stops [] blank = tt
blank_stops (b ∷ bytes) blank = blank_no_name_byte b (and_parts (is_blank b) (list_all is_blank bytes) blank).0

-- a token that follows a word does not go on with it
token_stops : (token : Token) (gap text rest : List ℕ) → AreBlank gap → (true ≡ true → is_word token ≡ true → gap ≢ []) → IsText token text
    → Stops is_name_byte (gap ++ (text ++ rest))
token_stops token (b ∷ gap) text rest blank apart t = blank_no_name_byte b (and_parts (is_blank b) (list_all is_blank gap) blank).0
token_stops (Name name) [] text rest blank apart t = absurd (apart refl refl refl)
token_stops (Number z) [] text rest blank apart t = absurd (apart refl refl refl)
token_stops (Mark mark) [] text rest blank apart t = rw t.0 (mark_no_name_byte mark t.1)

tokens_stop : (tokens : List Token) (bytes : List ℕ) → HasTokens tokens true bytes → Stops is_name_byte bytes
tokens_stop [] bytes h = blank_stops bytes h
tokens_stop (token ∷ tokens) bytes h = rw h.is (token_stops token h.gap h.text h.rest h.blank h.apart h.token_text)

not_glued : (gap : List ℕ) (word is : Bool) → (word ≡ true → is ≡ true → gap ≢ []) → (word_behind gap word && is) ≡ false
not_glued (b ∷ gap) word is apart = refl
not_glued [] true true apart = absurd (apart refl refl refl)
not_glued [] true false apart = refl
not_glued [] false is apart = refl

-- the lexemes of bytes that begin with a token which is read
first_lexeme : (token : Token) (tokens : List Token) (text rest : List ℕ) (word : Bool) → Reads token text rest → (word && is_word token) ≡ false
    → AreTokens (lexemes_from 0 (is_word token) rest) tokens → AreTokens (lexemes_from 0 word (text ++ rest)) (token ∷ tokens)
first_lexeme token tokens text rest word r free others =
    let behind : lexemes_from (more_of r.first (r.more ++ rest)) (begins_word r.first) (r.more ++ rest) ≡ lexemes_from 0 (is_word token) rest =
    lexemes_skip (more_of r.first (r.more ++ rest)) (begins_word r.first) (r.more ++ rest)
    ∙ ap (λ (bs : List ℕ). lexemes_from 0 (begins_word r.first) bs) r.read.left ∙ ap (λ (w : Bool). lexemes_from 0 w rest) r.read.word in
    let sound : IsSound (lexeme_at word r.first (r.more ++ rest)) token =
    record { token_is = r.read.token_is; free = ap (λ (w : Bool). word && w) r.read.word ∙ free } in
    rw (r.is, r.read.no_blank) (sound, subst (λ (ls : List Lexeme). AreTokens ls tokens) (sym behind) others)

reads : (tokens : List Token) (word : Bool) (bytes : List ℕ) → HasTokens tokens word bytes → AreTokens (lexemes_from 0 word bytes) tokens
reads [] word bytes h = rw (lexemes_blank bytes word h) tt
reads (token ∷ tokens) word bytes h =
    let ends : is_word token ≡ true → Stops is_name_byte h.rest =
    (λ e. tokens_stop tokens h.rest (subst (λ (w : Bool). HasTokens tokens w h.rest) e h.others)) in
    let read = text_read token h.text h.rest h.token_text ends in
    let free = not_glued h.gap word (is_word token) h.apart in
    rw (h.is, lexemes_gap h.gap (h.text ++ h.rest) word h.blank)
    (first_lexeme token tokens h.text h.rest (word_behind h.gap word) read free (reads tokens (is_word token) h.rest h.others))

-- ---- what is read is spelled

cons_not_empty : (b : ℕ) (bytes : List ℕ) → b ∷ bytes ≢ []
cons_not_empty b bytes e = cc

-- a blank may stand before any tokens
blank_before : (tokens : List Token) (word : Bool) (b : ℕ) (bytes : List ℕ) → is_blank b ≡ true → HasTokens tokens false bytes
    → HasTokens tokens word (b ∷ bytes)
blank_before [] word b bytes blank h = and_from (is_blank b) (list_all is_blank bytes) blank h
blank_before (token ∷ tokens) word b bytes blank h = record {
  gap = b ∷ h.gap;
  text = h.text;
  rest = h.rest;
  is = ap (λ (bs : List ℕ). b ∷ bs) h.is;
  blank = and_from (is_blank b) (list_all is_blank h.gap) blank h.blank;
  apart = λ _ _. cons_not_empty b h.gap;
  token_text = h.token_text;
  others = h.others;
}

-- a token that is read and not glued, before others
token_before : (tokens : List Token) (token : Token) (word : Bool) (b : ℕ) (bytes : List ℕ) → IsSound (lexeme_at word b bytes) token
    → HasTokens tokens (begins_word b) (drop (more_of b bytes) bytes) → HasTokens (token ∷ tokens) word (b ∷ bytes)
token_before tokens token word b bytes sound h =
    let t = token_is_text b bytes token sound.token_is in
    record {
      gap = [];
      text = b ∷ take (more_of b bytes) bytes;
      rest = drop (more_of b bytes) bytes;
      is = ap (λ (bs : List ℕ). b ∷ bs) (sym (take-append-drop (more_of b bytes) bytes));
      blank = refl;
      apart = λ w i none. both_ways (word && begins_word b) sound.free (and_from word (begins_word b) w (t.word_is ∙ i));
      token_text = t.is_text;
      others = subst (λ (w : Bool). HasTokens tokens w (drop (more_of b bytes) bytes)) t.word_is h;
    }

-- the first byte is a blank, or a token's
byte_before : (t : Bool) (tokens : List Token) (word : Bool) (b : ℕ) (bytes : List ℕ) → is_blank b ≡ t
    → ((tokens : List Token) → AreTokens (lexemes_from (more_of b bytes) (begins_word b) bytes) tokens → HasTokens tokens (begins_word b) (drop (more_of b bytes) bytes))
    → AreTokens (cond t (lexemes_from (more_of b bytes) (begins_word b) bytes) (lexeme_at word b bytes ∷ lexemes_from (more_of b bytes) (begins_word b) bytes)) tokens
    → HasTokens tokens word (b ∷ bytes)
byte_before true tokens word b bytes blank behind h =
    let has : HasTokens tokens false (drop (more_of b bytes) bytes) =
    subst (λ (w : Bool). HasTokens tokens w (drop (more_of b bytes) bytes)) (blank_begins_none b blank) (behind tokens h) in
    blank_before tokens word b bytes blank (subst (λ (n : ℕ). HasTokens tokens false (drop n bytes)) (blank_has_no_more b bytes blank) has)
byte_before false [] word b bytes blank behind h = absurd h
byte_before false (token ∷ tokens) word b bytes blank behind h = token_before tokens token word b bytes h.0 (behind tokens h.1)

spelled : (bytes : List ℕ) (n : ℕ) (word : Bool) (tokens : List Token) → AreTokens (lexemes_from n word bytes) tokens → HasTokens tokens word (drop n bytes)
spelled [] zero word [] h = refl
spelled [] (suc n) word [] h = refl
spelled [] n word (token ∷ tokens) h = absurd h
spelled (b ∷ bytes) (suc n) word tokens h = spelled bytes n word tokens h
spelled (b ∷ bytes) zero word tokens h = byte_before (is_blank b) tokens word b bytes refl (spelled bytes (more_of b bytes) (begins_word b)) h

-- ---- lines

plain_append : (xs ys : List ℕ) → list_all is_plain xs ≡ true → list_all is_plain ys ≡ true → list_all is_plain (xs ++ ys) ≡ true
plain_append xs ys x y = list_all-append is_plain xs ys ∙ and_from (list_all is_plain xs) (list_all is_plain ys) x y

tokens_plain : (tokens : List Token) (word : Bool) (bytes : List ℕ) → HasTokens tokens word bytes → list_all is_plain bytes ≡ true
tokens_plain [] word bytes h = blank_plain bytes h
tokens_plain (token ∷ tokens) word bytes h =
    let others = tokens_plain tokens (is_word token) h.rest h.others in
    rw h.is (plain_append h.gap (h.text ++ h.rest) (blank_plain h.gap h.blank) (plain_append h.text h.rest (text_plain token h.text h.token_text) others))

pub comment_stops : (comment : List ℕ) → IsComment comment → Stops is_plain comment
comment_stops comment (inl e) = rw e tt
comment_stops comment (inr (more, e)) = rw e refl

pub comment_from : (comment : List ℕ) → Stops is_plain comment → IsComment comment
comment_from [] stops = inl refl
comment_from (b ∷ more) stops = inr (more, ap (λ (x : ℕ). x ∷ more) (eqb-true b 59 (not-false (is_semicolon b) stops)))

line_read : (line : List ℕ) (tokens : List Token) → SpellsTokens line tokens → AreTokens (lexemes_of line) tokens
line_read line tokens s =
    let body : before_first is_semicolon (s.body ++ s.comment) ≡ s.body =
    front_taken is_plain s.body s.comment (tokens_plain tokens false s.body s.has_tokens) (comment_stops s.comment s.is_comment) in
    rw (s.is, body) (reads tokens false s.body s.has_tokens)

line_spelled : (line : List ℕ) (tokens : List Token) → AreTokens (lexemes_of line) tokens → SpellsTokens line tokens
line_spelled line tokens h = record {
  body = before_first is_semicolon line;
  comment = drop (prefix_len is_plain line) line;
  is = sym (take-append-drop (prefix_len is_plain line) line);
  is_comment = comment_from (drop (prefix_len is_plain line) line) (front_stops is_plain line);
  has_tokens = spelled (before_first is_semicolon line) 0 false tokens h;
}

pub tokens_law : TokensLaw
tokens_law line tokens = (line_read line tokens, line_spelled line tokens)

-- ---- what is not glued

mark_in : (b : ℕ) (bytes : List ℕ) (r : Result Token AsmKind) → token_at b bytes ≡ r → is_mark_token r ≡ true → begins_word b ≡ false
mark_in b bytes (Ok (Mark mark)) e m = (token_is_text b bytes (Mark mark) e).word_is
mark_in b bytes (Ok (Name name)) e m = absurd cc
mark_in b bytes (Ok (Number z)) e m = absurd cc
mark_in b bytes (Err kind) e m = absurd cc

mark_begins_none : (b : ℕ) (bytes : List ℕ) → is_mark_token (token_at b bytes) ≡ true → begins_word b ≡ false
mark_begins_none b bytes m = mark_in b bytes (token_at b bytes) refl m

byte_free : (t : Bool) (free word : Bool) (b : ℕ) (bytes : List ℕ) → is_blank b ≡ t → (free ≡ true → word ≡ false)
    → ((free : Bool) → (free ≡ true → begins_word b ≡ false) → AreFree free (lexemes_from (more_of b bytes) (begins_word b) bytes))
    → AreFree free (cond t (lexemes_from (more_of b bytes) (begins_word b) bytes) (lexeme_at word b bytes ∷ lexemes_from (more_of b bytes) (begins_word b) bytes))
byte_free true free word b bytes blank first behind = behind free (λ _. blank_begins_none b blank)
byte_free false free word b bytes blank first behind = (
  (λ e. rw (first e) refl),
  (λ m. and_right word (begins_word b) (mark_begins_none b bytes m)),
  behind (is_mark_token (token_at b bytes)) (mark_begins_none b bytes),
)

free_from : (bytes : List ℕ) (n : ℕ) (free word : Bool) → (free ≡ true → word ≡ false) → AreFree free (lexemes_from n word bytes)
free_from [] n free word first = tt
free_from (b ∷ bytes) (suc n) free word first = free_from bytes n free word first
free_from (b ∷ bytes) zero free word first =
    byte_free (is_blank b) free word b bytes refl first (λ f e. free_from bytes (more_of b bytes) f (begins_word b) e)

pub free_law : FreeLaw
free_law line = free_from (before_first is_semicolon line) 0 true false (λ _. refl)
