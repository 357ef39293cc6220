-- The next token of a line, past its blanks.
use Rattle.std.proofs.Common.{◌≡◌, ◌∙◌, refl, sym, ap, ◌⊎◌, inl, inr, ℕ, zero, suc, ◌+◌, ◌<◌, Bool, true, false, ◌&&◌, ◌==◌, List, [], ◌∷◌, drop, length, get_or, Result, arith}
use Rattle.std.specs.List.{prefix_len}
use Rattle.std.proofs.lemmas.Bool.Decides.{nat_tests}
use Rattle.std.proofs.lemmas.List.{get_or-drop, length-drop}
use Rattle.std.proofs.lemmas.List.Sums.{prefix_len_stops}
use Rattle.spur_asm.specs.Bytes.{is_blank}
use Rattle.spur_asm.specs.Token.{Token}
use Rattle.spur_asm.specs.Lexeme.{Lexeme, lexeme_at, lexemes_from, more_of, begins_word}
use Rattle.spur_asm.specs.Front.{front_token, behind_front}
use Rattle.spur_asm.specs.declared.fault.AsmKind.{AsmKind}

-- the first bytes, which a token before has taken, count for nothing
lexemes_behind : (n : ℕ) (w : Bool) (bytes : List ℕ) → lexemes_from n w bytes ≡ lexemes_from 0 w (drop n bytes)
lexemes_behind zero w bytes = refl
lexemes_behind (suc n) w [] = refl
lexemes_behind (suc n) w (b ∷ bytes) = lexemes_behind n w bytes

-- a blank begins no token
blank_cases : (b : ℕ) → is_blank b ≡ true → (b ≡ 32) ⊎ ((b ≡ 9) ⊎ (b ≡ 13))
blank_cases b e = grind (arith, nat_tests)

takes_none : (b : ℕ) (bytes : List ℕ) → (b ≡ 32) ⊎ ((b ≡ 9) ⊎ (b ≡ 13)) → more_of b bytes ≡ 0
takes_none b bytes (inl e) = rw e refl
takes_none b bytes (inr (inl e)) = rw e refl
takes_none b bytes (inr (inr e)) = rw e refl

begins_none : (b : ℕ) → (b ≡ 32) ⊎ ((b ≡ 9) ⊎ (b ≡ 13)) → begins_word b ≡ false
begins_none b (inl e) = rw e refl
begins_none b (inr (inl e)) = rw e refl
begins_none b (inr (inr e)) = rw e refl

unblank : (b : ℕ) (bytes : List ℕ) → is_blank b ≡ true → lexemes_from (more_of b bytes) (begins_word b) bytes ≡ lexemes_from 0 false bytes
unblank b bytes e =
    let n : more_of b bytes ≡ 0 = takes_none b bytes (blank_cases b e) in
    let w : begins_word b ≡ false = begins_none b (blank_cases b e) in
    ap (λ (m : ℕ). lexemes_from m (begins_word b) bytes) n ∙ ap (λ (v : Bool). lexemes_from 0 v bytes) w

parted : (w : Bool) (n : ℕ) → (w && (suc n == 0)) ≡ false
parted true n = grind (arith, nat_tests)
parted false n = refl

unparted : (w : Bool) → (w && (0 == 0)) ≡ w
unparted true = refl
unparted false = refl

-- blanks part what follows from what stands before
past : (w : Bool) (b : ℕ) (bytes : List ℕ) (is : Bool) → is_blank b ≡ is
    → lexemes_from 0 false bytes ≡ lexemes_from 0 false (drop (prefix_len is_blank bytes) bytes)
    → lexemes_from 0 w (b ∷ bytes) ≡ lexemes_from 0 (w && (prefix_len is_blank (b ∷ bytes) == 0)) (drop (prefix_len is_blank (b ∷ bytes)) (b ∷ bytes))
past w b bytes true e more =
    let n : ℕ = prefix_len is_blank bytes in
    let one : 1 + n ≡ suc n = omega arith in
    let some : prefix_len is_blank (b ∷ bytes) ≡ 1 + n = rw e refl in
    let opened : lexemes_from 0 w (b ∷ bytes) ≡ lexemes_from (more_of b bytes) (begins_word b) bytes = rw e refl in
    opened ∙ unblank b bytes e ∙ more
    ∙ sym (ap (λ (m : ℕ). lexemes_from 0 (w && (m == 0)) (drop m (b ∷ bytes))) (some ∙ one) ∙ ap (λ (v : Bool). lexemes_from 0 v (drop n bytes)) (parted w n))
past w b bytes false e more =
    let none : prefix_len is_blank (b ∷ bytes) ≡ 0 = rw e refl in
    sym (ap (λ (n : ℕ). lexemes_from 0 (w && (n == 0)) (drop n (b ∷ bytes))) none ∙ ap (λ (v : Bool). lexemes_from 0 v (b ∷ bytes)) (unparted w))

past_blanks : (w : Bool) (bytes : List ℕ) → lexemes_from 0 w bytes ≡ lexemes_from 0 (w && (prefix_len is_blank bytes == 0)) (drop (prefix_len is_blank bytes) bytes)
past_blanks w [] = refl
past_blanks w (b ∷ bytes) = past w b bytes (is_blank b) refl (past_blanks false bytes)

-- bytes that begin with no blank
begins : (w : Bool) (bytes : List ℕ) (d : ℕ) → 0 < length bytes → is_blank (get_or bytes 0 d) ≡ false
    → lexemes_from 0 w bytes ≡ record { token = front_token bytes; glued = w && begins_word (get_or bytes 0 d); left = length bytes } ∷ lexemes_from 0 (begins_word (get_or bytes 0 d)) (behind_front bytes)
begins w [] d some blank = absurd (omega arith)
begins w (b ∷ bytes) d some blank = rw blank (ap (λ (more : List Lexeme). lexeme_at w b bytes ∷ more) (lexemes_behind (more_of b bytes) (begins_word b) bytes))

unblank_first : (rest : List ℕ) → 0 < length (drop (prefix_len is_blank rest) rest) → is_blank (get_or (drop (prefix_len is_blank rest) rest) 0 0) ≡ false
unblank_first rest some =
    let stops : prefix_len is_blank rest < length rest → is_blank (get_or rest (prefix_len is_blank rest) 0) ≡ false = prefix_len_stops is_blank rest 0 in
    let here : prefix_len is_blank rest + 0 ≡ prefix_len is_blank rest = omega arith in
    let at : get_or (drop (prefix_len is_blank rest) rest) 0 0 ≡ get_or rest (prefix_len is_blank rest + 0) 0 = get_or-drop (prefix_len is_blank rest) rest 0 0 in
    rw (at, here) (stops (omega (arith, length-drop (prefix_len is_blank rest) rest)))

-- the token behind the blanks is the first
pub takes_first : (w glued word : Bool) (k : ℕ) (rest bytes behind : List ℕ) (token : Result Token AsmKind) → k ≡ prefix_len is_blank rest → bytes ≡ drop k rest → 0 < length bytes
    → word ≡ begins_word (get_or bytes 0 0) → glued ≡ ((w && (k == 0)) && word) → token ≡ front_token bytes → behind ≡ behind_front bytes
    → lexemes_from 0 w rest ≡ record { token = token; glued = glued; left = length bytes } ∷ lexemes_from 0 word behind
takes_first w glued word k rest bytes behind token blanks cut some is_word is_glued is_token is_behind =
    let cut_at : bytes ≡ drop (prefix_len is_blank rest) rest = cut ∙ ap (λ (n : ℕ). drop n rest) blanks in
    let first : is_blank (get_or bytes 0 0) ≡ false = rw cut_at (unblank_first rest (rw cut_at at some)) in
    let past : lexemes_from 0 w rest ≡ lexemes_from 0 (w && (k == 0)) bytes = rw (cut_at, blanks) (past_blanks w rest) in
    past ∙ begins (w && (k == 0)) bytes 0 some first ∙ rw (is_glued, is_token, is_behind, is_word) refl

-- where nothing stands behind the blanks, there is no token
pub takes_nothing : (w : Bool) (k : ℕ) (rest bytes : List ℕ) → k ≡ prefix_len is_blank rest → bytes ≡ drop k rest → length bytes < 1 → lexemes_from 0 w rest ≡ []
takes_nothing w k rest [] blanks cut none = past_blanks w rest ∙ rw (← blanks, ← cut) refl
takes_nothing w k rest (b ∷ bytes) blanks cut none = absurd (omega arith)
