-- A reader that takes one field after the other fails exactly where the pieces have a fault, and there.
use Rattle.std.proofs.Common.{◌≡◌, ◌⊎◌, ◌↔◌, inl, inr, ℕ, zero, suc, ◌+◌, ◌<◌, Bool, true, false, List, [], ◌∷◌, Some, Result, Ok, Err, refl, sym, ap, subst, ◌∙◌, arith}
use Rattle.std.specs.Prelude.{slice_get}
use Rattle.spur_asm.specs.Lexeme.{Lexeme}
use Rattle.spur_asm.specs.Fields.{◌>>=◌, misfit, token_value, taken, field_at, unwanted, leftover, end_at}
use Rattle.spur_asm.specs.Pieces.{Piece, IsPiece, touches}
use Rattle.spur_asm.specs.Shapes.{Field, Fits, OwnFault, kind_against}
use Rattle.spur_asm.specs.Faults.{DoesNotFit, LacksBlank, IsToken, FitsAt, IsFaultOf, FieldsFault}
use Rattle.spur_asm.specs.Spelling.{IsText}
use Rattle.spur_asm.specs.Token.{Token}
use Rattle.spur_asm.specs.declared.fault.AsmKind.{AsmKind}
use Rattle.spur_asm.specs.declared.fault.AsmKind.TheVariants.{BadToken}
use Rattle.spur_asm.specs.declared.fault.Misfit.{Misfit}
use Rattle.spur_asm.proofs.PieceFacts.{AreFound, token_of_text}
use Rattle.spur_asm.proofs.PieceTokens.{piece_writes, piece_reads, own_is, own_read}

-- ---- what a field wants and what a reader takes

-- a text that fits is a token which the reader takes
pub record IsTaken {A : Type 0} (takes : Token → Result A AsmKind) (text : List ℕ) : Type 0 where
  pub token : Token
  pub writes : IsText token text
  pub value : A
  pub taken_as : takes token ≡ Ok value

-- the reader takes what fits the field, and its faults have the field's kinds
pub record Matches {A : Type 0} (labels : List (List ℕ)) (field : Field) (takes : Token → Result A AsmKind) : Type 0 where
  pub fits : (token : Token) (value : A) (text : List ℕ) → IsText token text → takes token ≡ Ok value → Fits labels field text
  pub takes_it : (text : List ℕ) → Fits labels field text → IsTaken takes text
  pub kind_is : (token : Token) (kind : AsmKind) → takes token ≡ Err kind → kind ≡ kind_against field token

-- ---- readers of all fields

-- the pieces have this fault, behind which so many bytes of the line are left
pub record HasFieldsFault (labels : List (List ℕ)) (fields : List Field) (last : Piece) (pieces : List Piece) (end left : ℕ) (kind : AsmKind) : Type 0 where
  pub before : ℕ
  pub place : left + before ≡ end
  pub fault : FieldsFault labels fields last pieces end before kind

-- the reader fails exactly where the pieces that the tokens are have this fault
abbrev pub Judges : {B : Type 0} → List (List ℕ) → List Field → (List Lexeme → Result B Misfit) → Type 0
Judges labels fields read = (end : ℕ) (last : Piece) (pieces : List Piece) (lexemes : List Lexeme) → AreFound end (Some last) lexemes pieces
    → (kind : AsmKind) (left : ℕ) → (read lexemes ≡ Err (misfit kind left)) ↔ HasFieldsFault labels fields last pieces end left kind

-- ---- steps from piece to piece

below_zero : {A : Type 0} (k : ℕ) → k < 0 → A
below_zero k e = absurd (omega arith)

above : (k n : ℕ) → k < n → suc k < suc n
above k n e = omega arith

pub first_below : (n : ℕ) → 0 < suc n
first_below n = omega arith

-- the fault at the first piece
fault_here : (labels : List (List ℕ)) (fields : List Field) (last : Piece) (pieces : List Piece) (end before : ℕ) (kind : AsmKind)
    → IsFaultOf labels (slice_get fields 0) (slice_get pieces 0) (Some last) end before kind → FieldsFault labels fields last pieces end before kind
fault_here labels fields last pieces end before kind here = record { number = 0; so_far = λ k low. below_zero k low; here = here }

-- the first piece fits
pub record FitsFirst (labels : List (List ℕ)) (field : Field) (last piece : Piece) : Type 0 where
  pub fits : Fits labels field piece.text
  pub apart : touches last piece ≡ false

so_far_next : (labels : List (List ℕ)) (field : Field) (fields : List Field) (last piece : Piece) (pieces : List Piece) (n : ℕ) → FitsFirst labels field last piece
    → ((k : ℕ) → k < n → FitsAt labels fields piece pieces k) → (k : ℕ) → k < suc n → FitsAt labels (field ∷ fields) last (piece ∷ pieces) k
so_far_next labels field fields last piece pieces n first next zero low =
    record { field = field; field_is = refl; piece = piece; piece_is = refl; behind = last; behind_is = refl; fits = first.fits; apart = first.apart }
so_far_next labels field fields last piece pieces n first next (suc k) low =
    let at = next k (omega arith) in
    record { field = at.field; field_is = at.field_is; piece = at.piece; piece_is = at.piece_is; behind = at.behind; behind_is = at.behind_is; fits = at.fits; apart = at.apart }

fault_next : (labels : List (List ℕ)) (field : Field) (fields : List Field) (last piece : Piece) (pieces : List Piece) (end before : ℕ) (kind : AsmKind) → FitsFirst labels field last piece
    → FieldsFault labels fields piece pieces end before kind → FieldsFault labels (field ∷ fields) last (piece ∷ pieces) end before kind
fault_next labels field fields last piece pieces end before kind first f =
    record { number = suc f.number; so_far = so_far_next labels field fields last piece pieces f.number first f.so_far; here = f.here }

at_first : {X : Type 0} (x y : X) → Some x ≡ Some y → x ≡ y
at_first x y e = cc

-- the first of these pieces fits, where a later one has the fault
pub first_fits : (labels : List (List ℕ)) (field : Field) (fields : List Field) (last piece : Piece) (pieces : List Piece) → FitsAt labels (field ∷ fields) last (piece ∷ pieces) 0 → FitsFirst labels field last piece
first_fits labels field fields last piece pieces at =
    let f : at.field ≡ field = sym (at_first field at.field at.field_is) in
    let p : at.piece ≡ piece = sym (at_first piece at.piece at.piece_is) in
    let b : at.behind ≡ last = sym (at_first last at.behind at.behind_is) in
    let fits : Fits labels field at.piece.text = subst (λ (x : Field). Fits labels x at.piece.text) f at.fits in
    let apart : touches last at.piece ≡ false = subst (λ (x : Piece). touches x at.piece ≡ false) b at.apart in
    record { fits = subst (λ (x : Piece). Fits labels field x.text) p fits; apart = subst (λ (x : Piece). touches last x ≡ false) p apart }

pub fault_behind : (labels : List (List ℕ)) (field : Field) (fields : List Field) (last piece : Piece) (pieces : List Piece) (end before n : ℕ) (kind : AsmKind)
    → ((k : ℕ) → k < suc n → FitsAt labels (field ∷ fields) last (piece ∷ pieces) k) → IsFaultOf labels (slice_get fields n) (slice_get pieces n) (slice_get (piece ∷ pieces) n) end before kind
    → FieldsFault labels fields piece pieces end before kind
fault_behind labels field fields last piece pieces end before n kind so_far here = record {
  number = n;
  so_far = λ k low. (let at = so_far (suc k) (above k n low) in record { field = at.field; field_is = at.field_is; piece = at.piece; piece_is = at.piece_is; behind = at.behind; behind_is = at.behind_is; fits = at.fits; apart = at.apart });
  here = here;
}

-- no piece fits where there is none
pub none_fits : {A : Type 0} (labels : List (List ℕ)) (fields : List Field) (last : Piece) (k : ℕ) → FitsAt labels fields last [] k → A
none_fits labels fields last k at = absurd (let none = at.piece_is in cc)

pub no_field_fits : {A : Type 0} (labels : List (List ℕ)) (last : Piece) (pieces : List Piece) (k : ℕ) → FitsAt labels [] last pieces k → A
no_field_fits labels last pieces k at = absurd (let none = at.field_is in cc)

-- ---- a field

pub same_misfit : {B : Type 0} (a b : AsmKind) (m n : ℕ) → ◌≡◌ {A = Result B Misfit} (Err (misfit a m)) (Err (misfit b n)) → (a ≡ b) × (m ≡ n)
same_misfit a b m n e =
    let same : misfit a m ≡ misfit b n = cc in
    (ap (λ (x : Misfit). x.kind) same, ap (λ (x : Misfit). x.left) same)

not_taken : {A : Type 0} (labels : List (List ℕ)) (field : Field) (takes : Token → Result A AsmKind) (text : List ℕ) (kind : AsmKind) → Matches labels field takes → IsPiece text []
    → token_value (token_of_text text) takes ≡ Err kind → Fits labels field text → ⊥
not_taken labels field takes text kind m p e fits =
    let t = m.takes_it text fits in
    let read = piece_reads text t.token p t.writes in
    let value : token_value (token_of_text text) takes ≡ Ok t.value = rw read t.taken_as in
    cc

-- where the reader failed, the pieces have the fault
field_fails : {A B : Type 0} (labels : List (List ℕ)) (field : Field) (fields : List Field) (takes : Token → Result A AsmKind) (next : A × List Lexeme → Result B Misfit) → Matches labels field takes
    → ((x : A) → Judges labels fields (λ rest. next (x, rest))) → (end : ℕ) (last : Piece) (pieces : List Piece) (lexemes : List Lexeme) → AreFound end (Some last) lexemes pieces
    → (kind : AsmKind) (left : ℕ) → (field_at takes lexemes >>= next) ≡ Err (misfit kind left) → HasFieldsFault labels (field ∷ fields) last pieces end left kind
field_fails {A} {B} labels field fields takes next m others end last [] [] found kind left e =
    let same = same_misfit {B = B} BadToken kind 0 left e in
    let none : 0 ≡ left = same.1 in
    record { before = end; place = omega (arith, none); fault = fault_here labels (field ∷ fields) last [] end end kind (refl, sym same.0) }
field_fails labels field fields takes next m others end last [] (piece ∷ pieces) found kind left e = absurd found
field_fails labels field fields takes next m others end last (piece ∷ pieces) [] found kind left e = absurd found
field_fails {A} {B} labels field fields takes next m others end last (piece ∷ pieces) (one ∷ lexemes) found kind left e =
    parts one.token (token_value one.token takes) one.glued refl refl refl e
  where
    here : ◌≡◌ {A = ℕ} one.left left → DoesNotFit labels field piece.text kind ⊎ LacksBlank labels field last piece kind → HasFieldsFault labels (field ∷ fields) last (piece ∷ pieces) end left kind
    here is fault =
        let left_is = found.0.left_is in
        record { before = piece.before; place = omega (arith, left_is, is); fault = fault_here labels (field ∷ fields) last (piece ∷ pieces) end piece.before kind (refl, fault) }

    parts : (token : Result Token AsmKind) (value : Result A AsmKind) (glued : Bool) → one.token ≡ token → token_value token takes ≡ value → one.glued ≡ glued
        → (taken (record one { glued = glued }) value lexemes >>= next) ≡ Err (misfit kind left) → HasFieldsFault labels (field ∷ fields) last (piece ∷ pieces) end left kind
    parts (Err k) (Ok x) glued t v g e = absurd cc
    parts (Err k) (Err other) glued t v g e =
        let same = same_misfit {B = B} other kind one.left left e in
        let k_is : k ≡ kind = cc in
        let read : token_of_text piece.text ≡ Err kind = sym found.0.token_is ∙ t ∙ rw k_is refl in
        here same.1 (inl (record { no_fit = not_taken labels field takes piece.text kind m found.0.is_piece (rw read refl); has_kind = inl (own_is piece.text kind found.0.is_piece read) }))
    parts (Ok token) (Err other) glued t v g e =
        let same = same_misfit {B = B} other kind one.left left e in
        let read : token_of_text piece.text ≡ Ok token = sym found.0.token_is ∙ t in
        let value : takes token ≡ Err kind = v ∙ rw same.0 refl in
        here same.1 (inl (record { no_fit = not_taken labels field takes piece.text kind m found.0.is_piece (rw read value); has_kind = inr (record { token = token; is = piece_writes piece.text token found.0.is_piece read; kind_is = m.kind_is token kind value }) }))
    parts (Ok token) (Ok x) true t v g e =
        let same = same_misfit {B = B} BadToken kind one.left left e in
        let read : token_of_text piece.text ≡ Ok token = sym found.0.token_is ∙ t in
        here same.1 (inr (record { fits = m.fits token x piece.text (piece_writes piece.text token found.0.is_piece read) v; touches_it = sym found.0.glued_is ∙ g; kind_is = sym same.0 }))
    parts (Ok token) (Ok x) false t v g e =
        let read : token_of_text piece.text ≡ Ok token = sym found.0.token_is ∙ t in
        let behind = (others x end piece pieces lexemes found.1 kind left).0 e in
        let first : FitsFirst labels field last piece = record { fits = m.fits token x piece.text (piece_writes piece.text token found.0.is_piece read) v; apart = sym found.0.glued_is ∙ g } in
        record { before = behind.before; place = behind.place; fault = fault_next labels field fields last piece pieces end behind.before kind first behind.fault }

pub same_left : (a b p q end : ℕ) → a + p ≡ end → b + q ≡ end → q ≡ p → a ≡ b
same_left a b p q end e f g = omega arith

-- where the pieces have the fault, the reader fails
field_faults : {A B : Type 0} (labels : List (List ℕ)) (field : Field) (fields : List Field) (takes : Token → Result A AsmKind) (next : A × List Lexeme → Result B Misfit) → Matches labels field takes
    → ((x : A) → Judges labels fields (λ rest. next (x, rest))) → (end : ℕ) (last : Piece) (pieces : List Piece) (lexemes : List Lexeme) → AreFound end (Some last) lexemes pieces
    → (kind : AsmKind) (left before n : ℕ) → left + before ≡ end → ((k : ℕ) → k < n → FitsAt labels (field ∷ fields) last pieces k)
    → IsFaultOf labels (slice_get (field ∷ fields) n) (slice_get pieces n) (slice_get (last ∷ pieces) n) end before kind
    → (field_at takes lexemes >>= next) ≡ Err (misfit kind left)
field_faults labels field fields takes next m others end last [] [] found kind left before zero place so_far here =
    let at : before ≡ end = here.0 in
    let none : left ≡ 0 = omega (arith, at, place) in
    rw (here.1, none) refl
field_faults labels field fields takes next m others end last [] [] found kind left before (suc n) place so_far here = none_fits labels (field ∷ fields) last 0 (so_far 0 (first_below n))
field_faults labels field fields takes next m others end last [] (one ∷ lexemes) found kind left before n place so_far here = absurd found
field_faults labels field fields takes next m others end last (piece ∷ pieces) [] found kind left before n place so_far here = absurd found
field_faults {A} {B} labels field fields takes next m others end last (piece ∷ pieces) (one ∷ lexemes) found kind left before zero place so_far here =
    let left_is : one.left ≡ left = same_left one.left left piece.before before end found.0.left_is place here.0 in
    at left_is here.1
  where
    against : (token : Token) (value : Result A AsmKind) → IsText token piece.text → (Fits labels field piece.text → ⊥) → takes token ≡ value → kind ≡ kind_against field token → takes token ≡ Err kind
    against token (Ok x) is no_fit v k = absurd (no_fit (m.fits token x piece.text is v))
    against token (Err other) is no_fit v k = v ∙ rw (m.kind_is token other v, k) refl

    at : one.left ≡ left → DoesNotFit labels field piece.text kind ⊎ LacksBlank labels field last piece kind → (field_at takes (one ∷ lexemes) >>= next) ≡ Err (misfit kind left)
    at left_is (inl d) = elim d.has_kind [
      | inl own ↦ (let read : one.token ≡ Err kind = found.0.token_is ∙ own_read piece.text kind own in rw (read, left_is) refl)
      | inr a ↦ (let read : one.token ≡ Ok a.token = found.0.token_is ∙ piece_reads piece.text a.token found.0.is_piece a.is in
          rw (read, against a.token (takes a.token) a.is d.no_fit refl a.kind_is, left_is) refl)
    ]
    at left_is (inr l) =
        let t = m.takes_it piece.text l.fits in
        let read : one.token ≡ Ok t.token = found.0.token_is ∙ piece_reads piece.text t.token found.0.is_piece t.writes in
        let glued : one.glued ≡ true = found.0.glued_is ∙ l.touches_it in
        rw (read, t.taken_as, glued, left_is, l.kind_is) refl
field_faults {A} {B} labels field fields takes next m others end last (piece ∷ pieces) (one ∷ lexemes) found kind left before (suc n) place so_far here =
    let first = first_fits labels field fields last piece pieces (so_far 0 (first_below n)) in
    let t = m.takes_it piece.text first.fits in
    let read : one.token ≡ Ok t.token = found.0.token_is ∙ piece_reads piece.text t.token found.0.is_piece t.writes in
    let glued : one.glued ≡ false = found.0.glued_is ∙ first.apart in
    let fault = fault_behind labels field fields last piece pieces end before n kind so_far here in
    rw (read, t.taken_as, glued) ((others t.value end piece pieces lexemes found.1 kind left).1 (record { before = before; place = place; fault = fault }))

pub judge_field : {A B : Type 0} (labels : List (List ℕ)) (field : Field) (fields : List Field) (takes : Token → Result A AsmKind) (next : A × List Lexeme → Result B Misfit) → Matches labels field takes
    → ((x : A) → Judges labels fields (λ rest. next (x, rest))) → Judges labels (field ∷ fields) (λ lexemes. field_at takes lexemes >>= next)
judge_field labels field fields takes next m others end last pieces lexemes found kind left = (
  field_fails labels field fields takes next m others end last pieces lexemes found kind left,
  λ h. field_faults labels field fields takes next m others end last pieces lexemes found kind left h.before h.fault.number h.place h.fault.so_far h.fault.here,
)

-- ---- the end

end_fails : {B : Type 0} (labels : List (List ℕ)) (value : B) (end : ℕ) (last : Piece) (pieces : List Piece) (lexemes : List Lexeme) → AreFound end (Some last) lexemes pieces
    → (kind : AsmKind) (left : ℕ) → end_at value lexemes ≡ Err (misfit kind left) → HasFieldsFault labels [] last pieces end left kind
end_fails labels value end last [] [] found kind left e = absurd cc
end_fails labels value end last [] (one ∷ lexemes) found kind left e = absurd found
end_fails labels value end last (piece ∷ pieces) [] found kind left e = absurd found
end_fails {B} labels value end last (piece ∷ pieces) (one ∷ lexemes) found kind left e = parts one.token refl e
  where
    here : one.left ≡ left → OwnFault piece.text kind ⊎ (IsToken piece.text × (kind ≡ BadToken)) → HasFieldsFault labels [] last (piece ∷ pieces) end left kind
    here is fault =
        let left_is = found.0.left_is in
        record { before = piece.before; place = omega (arith, left_is, is); fault = fault_here labels [] last (piece ∷ pieces) end piece.before kind (refl, fault) }

    parts : (token : Result Token AsmKind) → one.token ≡ token → leftover {A = B} one (token_value token unwanted) ≡ Err (misfit kind left) → HasFieldsFault labels [] last (piece ∷ pieces) end left kind
    parts (Err k) t e =
        let same = same_misfit {B = B} k kind one.left left e in
        here same.1 (inl (own_is piece.text kind found.0.is_piece (sym found.0.token_is ∙ t ∙ rw same.0 refl)))
    parts (Ok token) t e =
        let same = same_misfit {B = B} BadToken kind one.left left e in
        here same.1 (inr (record { token = token; is = piece_writes piece.text token found.0.is_piece (sym found.0.token_is ∙ t) }, sym same.0))

end_faults : {B : Type 0} (labels : List (List ℕ)) (value : B) (end : ℕ) (last : Piece) (pieces : List Piece) (lexemes : List Lexeme) → AreFound end (Some last) lexemes pieces
    → (kind : AsmKind) (left before n : ℕ) → left + before ≡ end → ((k : ℕ) → k < n → FitsAt labels [] last pieces k)
    → IsFaultOf labels (slice_get [] n) (slice_get pieces n) (slice_get (last ∷ pieces) n) end before kind → end_at value lexemes ≡ Err (misfit kind left)
end_faults labels value end last pieces lexemes found kind left before (suc n) place so_far here = no_field_fits labels last pieces 0 (so_far 0 (first_below n))
end_faults labels value end last [] [] found kind left before zero place so_far here = absurd here
end_faults labels value end last [] (one ∷ lexemes) found kind left before zero place so_far here = absurd found
end_faults labels value end last (piece ∷ pieces) [] found kind left before zero place so_far here = absurd found
end_faults labels value end last (piece ∷ pieces) (one ∷ lexemes) found kind left before zero place so_far here =
    let left_is : one.left ≡ left = same_left one.left left piece.before before end found.0.left_is place here.0 in
    elim here.1 [
      | inl own ↦ (let read : one.token ≡ Err kind = found.0.token_is ∙ own_read piece.text kind own in rw (read, left_is) refl)
      | inr other ↦ (let read : one.token ≡ Ok other.0.token = found.0.token_is ∙ piece_reads piece.text other.0.token found.0.is_piece other.0.is in rw (read, left_is, other.1) refl)
    ]

pub judge_end : {B : Type 0} (labels : List (List ℕ)) (value : B) → Judges labels [] (λ lexemes. end_at value lexemes)
judge_end labels value end last pieces lexemes found kind left = (
  end_fails labels value end last pieces lexemes found kind left,
  λ h. end_faults labels value end last pieces lexemes found kind left h.before h.fault.number h.place h.fault.so_far h.fault.here,
)

-- ---- what is made of the fields

pub made_fails : {A B : Type 0} (r : Result A Misfit) (make : A → B) (m : Misfit) → (r >>= (λ x. Ok (make x))) ≡ Err m → r ≡ Err m
made_fails (Ok x) make m e = absurd cc
made_fails (Err k) make m e = cc

pub judge_made : {A B : Type 0} (labels : List (List ℕ)) (fields : List Field) (read : List Lexeme → Result A Misfit) (make : A → B) → Judges labels fields read
    → Judges labels fields (λ lexemes. read lexemes >>= (λ x. Ok (make x)))
judge_made labels fields read make j end last pieces lexemes found kind left = (
  λ e. (j end last pieces lexemes found kind left).0 (made_fails (read lexemes) make (misfit kind left) e),
  λ h. rw ((j end last pieces lexemes found kind left).1 h) refl,
)
