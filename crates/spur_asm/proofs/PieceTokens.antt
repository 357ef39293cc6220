-- A piece is a token, or has a fault by itself.
use Rattle.std.proofs.Common.{◌≡◌, ℕ, Bool, true, false, cond, ltb, List, [], ◌∷◌, ◌++◌, length, take, drop, Option, Some, None, Result, Ok, Err, refl, sym, ap, subst, ◌∙◌, ℤ}
use Rattle.std.proofs.lemmas.Bool.{lt-ltb, ltb-true}
use Rattle.std.proofs.lemmas.List.{append-nil, take-append-drop}
use Rattle.std.specs.Char.{is_ascii_graphic}
use Rattle.std.specs.List.{list_all}
use Rattle.spur_asm.specs.Bytes.{is_mark, is_name_start, is_number_start}
use Rattle.spur_asm.specs.Lexeme.{named, numbered, token_at, more_of}
use Rattle.spur_asm.specs.Number.{numeral_value}
use Rattle.spur_asm.specs.Pieces.{IsPiece}
use Rattle.spur_asm.specs.Shapes.{OwnFault, Long, Malformed, Stray, NoByte, BeginsBy, IsStray}
use Rattle.spur_asm.specs.Spelling.{IsNumber, IsText}
use Rattle.spur_asm.specs.Token.{Token, Name, Mark}
use Rattle.spur_asm.specs.declared.fault.AsmKind.{AsmKind}
use Rattle.spur_asm.specs.declared.fault.AsmKind.TheVariants.{BadByte, BadToken, BadNumber}
use Rattle.spur_asm.proofs.ByteLemmas.{number_start_no_name_start}
use Rattle.spur_asm.proofs.NumberLemmas.{number_read, number_is}
use Rattle.spur_asm.proofs.PieceFacts.{go, nothing_more, piece_dropped, piece_token, token_of_text}
use Rattle.spur_asm.proofs.TokenLemmas.{text_read, token_is_text}

-- ---- tokens

taken_all : (n : ℕ) (more : List ℕ) → drop n (more ++ []) ≡ [] → take n (more ++ []) ≡ more
taken_all n more none =
    sym (append-nil (take n (more ++ []))) ∙ ap (λ (r : List ℕ). take n (more ++ []) ++ r) (sym none) ∙ take-append-drop n (more ++ []) ∙ append-nil more

-- what a piece is read as, it writes
pub piece_writes : (text : List ℕ) (token : Token) → IsPiece text [] → token_of_text text ≡ Ok token → IsText token text
piece_writes text token p e =
    let read : token_at p.first (p.more ++ []) ≡ Ok token = piece_token p.first p.more [] p.whole tt ∙ ap token_of_text (sym p.is) ∙ e in
    let t = token_is_text p.first (p.more ++ []) token read in
    let all : take (more_of p.first (p.more ++ [])) (p.more ++ []) ≡ p.more = taken_all (more_of p.first (p.more ++ [])) p.more (piece_dropped p.first p.more [] p.whole tt) in
    rw p.is (subst (λ (more : List ℕ). IsText token (p.first ∷ more)) all t.is_text)

same_text : (a b : ℕ) (xs ys : List ℕ) → a ∷ xs ≡ b ∷ ys → (a ≡ b) × (xs ≡ ys)
same_text a b xs ys e = (cc, cc)

nothing_stops : (w : Bool) → w ≡ true → Unit {0}
nothing_stops w e = tt

-- and what it writes, it is read as
pub piece_reads : (text : List ℕ) (token : Token) → IsPiece text [] → IsText token text → token_of_text text ≡ Ok token
piece_reads text token p t =
    let r = text_read token text [] t (λ _. tt) in
    let same = same_text p.first r.first p.more r.more (sym p.is ∙ r.is) in
    let read : token_at p.first (p.more ++ []) ≡ Ok token = rw (same.0, same.1) r.read.token_is in
    ap token_of_text p.is ∙ sym (piece_token p.first p.more [] p.whole tt) ∙ read

-- ---- faults

long_is : (u : Bool) (text : List ℕ) (kind : AsmKind) → ltb 64 (length text) ≡ u → BeginsBy is_name_start text
    → ◌≡◌ {A = Result Token AsmKind} (cond u (Err BadToken) (Ok (Name text))) (Err kind) → OwnFault text kind
long_is true text kind long starts e = Long starts (ltb-true 64 (length text) long) cc
long_is false text kind long starts e = absurd cc

malformed_is : (o : Option ℤ) (text : List ℕ) (kind : AsmKind) → numeral_value text ≡ o → BeginsBy is_number_start text → numbered o ≡ Err kind → OwnFault text kind
malformed_is None text kind value starts e = Malformed starts (λ z is. absurd (let read = number_read text z is in cc)) cc
malformed_is (Some z) text kind value starts e = absurd cc

stray_is : (m g : Bool) (b : ℕ) (kind : AsmKind) → is_name_start b ≡ false → is_number_start b ≡ false → is_mark b ≡ m → is_ascii_graphic b ≡ g
    → ◌≡◌ {A = Result Token AsmKind} (cond m (Ok (Mark b)) (cond g (Err BadToken) (Err BadByte))) (Err kind) → OwnFault (b ∷ []) kind
stray_is true g b kind no_name no_number mark printed e = absurd cc
stray_is false true b kind no_name no_number mark printed e = Stray (record { byte = b; is = refl; no_name = no_name; no_number = no_number; no_mark = mark; printed_is = printed }) cc
stray_is false false b kind no_name no_number mark printed e = NoByte (record { byte = b; is = refl; no_name = no_name; no_number = no_number; no_mark = mark; printed_is = printed }) cc

own_by : (s n : Bool) (b : ℕ) (more : List ℕ) (kind : AsmKind) → is_name_start b ≡ s → is_number_start b ≡ n → list_all (go s n) more ≡ true
    → cond s (named (b ∷ more)) (cond n (numbered (numeral_value (b ∷ more))) (cond (is_mark b) (Ok (Mark b)) (cond (is_ascii_graphic b) (Err BadToken) (Err BadByte)))) ≡ Err kind
    → OwnFault (b ∷ more) kind
own_by true n b more kind starts number all e = long_is (ltb 64 (length (b ∷ more))) (b ∷ more) kind refl starts e
own_by false true b more kind starts number all e = malformed_is (numeral_value (b ∷ more)) (b ∷ more) kind refl number e
own_by false false b more kind starts number all e = rw (nothing_more more all) (stray_is (is_mark b) (is_ascii_graphic b) b kind starts number refl refl e)

-- a piece that is read as no token has this fault by itself
pub own_is : (text : List ℕ) (kind : AsmKind) → IsPiece text [] → token_of_text text ≡ Err kind → OwnFault text kind
own_is text kind p e = rw p.is (own_by (is_name_start p.first) (is_number_start p.first) p.first p.more kind refl refl p.whole (ap token_of_text (sym p.is) ∙ e))

none_written : (o : Option ℤ) (text : List ℕ) → numeral_value text ≡ o → ((z : ℤ) → IsNumber text z → ⊥) → numbered o ≡ Err BadNumber
none_written None text value none = refl
none_written (Some z) text value none = absurd (none z (number_is text z value))

stray_read : (text : List ℕ) (g : Bool) → IsStray text g → token_of_text text ≡ cond g (Err BadToken) (Err BadByte)
stray_read text g s = rw (s.is, s.no_name, s.no_number, s.no_mark, s.printed_is) refl

-- and a piece that has a fault by itself is read as no token
pub own_read : (text : List ℕ) (kind : AsmKind) → OwnFault text kind → token_of_text text ≡ Err kind
own_read [] kind (Long starts long is) = absurd starts
own_read (b ∷ more) kind (Long starts long is) = rw (starts, lt-ltb 64 (length (b ∷ more)) long, is) refl
own_read [] kind (Malformed starts none is) = absurd starts
own_read (b ∷ more) kind (Malformed starts none is) = rw (number_start_no_name_start b starts, starts, is) (none_written (numeral_value (b ∷ more)) (b ∷ more) refl none)
own_read text kind (Stray s is) = stray_read text true s ∙ rw is refl
own_read text kind (NoByte s is) = stray_read text false s ∙ rw is refl
