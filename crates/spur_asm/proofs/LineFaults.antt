-- A line is refused exactly where it has a fault, by that fault.
use Rattle.std.proofs.Common.{◌≡◌, ◌↔◌, inl, inr, ℕ, ◌+◌, List, [], ◌∷◌, Option, Some, None, Result, Ok, Err, refl, sym, ap, subst, ◌∙◌, arith, ℤ}
use Rattle.spur_asm.specs.Context.{misplacement}
use Rattle.spur_asm.specs.Faults.{IsStatement, NameFault, StatementFault, FieldsFault}
use Rattle.spur_asm.specs.Fields.{misfit}
use Rattle.spur_asm.specs.Lexeme.{Lexeme}
use Rattle.spur_asm.specs.Line.{begun_at, sorted_at, statement_at, unless_fault}
use Rattle.spur_asm.specs.Names.{sort_named}
use Rattle.spur_asm.specs.Pieces.{Piece}
use Rattle.spur_asm.specs.Shapes.{shape_of}
use Rattle.spur_asm.specs.Spelling.{IsText}
use Rattle.spur_asm.specs.Statements.{fields_at}
use Rattle.spur_asm.specs.Token.{Token, Name, Number, Mark}
use Rattle.spur_asm.specs.declared.fault.AsmKind.{AsmKind}
use Rattle.spur_asm.specs.declared.fault.AsmKind.TheVariants.{BadToken, UnknownName}
use Rattle.spur_asm.specs.declared.fault.Misfit.{Misfit}
use Rattle.spur_asm.specs.declared.statement.Context.{Context}
use Rattle.spur_asm.specs.declared.statement.Sort.{Sort}
use Rattle.spur_asm.specs.declared.statement.Statement.{Statement}
use Rattle.spur_asm.proofs.FieldKinds.{AreTargets}
use Rattle.spur_asm.proofs.Judging.{made_fails, same_misfit, same_left}
use Rattle.spur_asm.proofs.PieceFacts.{AreFound, IsFound, token_of_text}
use Rattle.spur_asm.proofs.PieceTokens.{piece_writes, piece_reads, own_is, own_read}
use Rattle.spur_asm.proofs.StatementFaults.{fields_judged}

-- ---- the statement of a line

-- the statement of these pieces has this fault, behind which so many bytes of the line are left
pub record HasStatementFault (labels : List (List ℕ)) (counts : Context) (pieces : List Piece) (end left : ℕ) (kind : AsmKind) : Type 0 where
  pub before : ℕ
  pub place : left + before ≡ end
  pub fault : StatementFault labels counts pieces end before kind

statement_fails : (labels : List (List ℕ)) (immediate : List ℕ → Option ℤ) (c : Context) → AreTargets labels immediate → (end : ℕ) (last : Option Piece) (pieces : List Piece) (lexemes : List Lexeme)
    → AreFound end last lexemes pieces → (kind : AsmKind) (left : ℕ) → statement_at immediate c lexemes ≡ Err (misfit kind left) → HasStatementFault labels c pieces end left kind
statement_fails labels immediate c are end last [] [] found kind left e = absurd cc
statement_fails labels immediate c are end last [] (one ∷ lexemes) found kind left e = absurd found
statement_fails labels immediate c are end last (piece ∷ pieces) [] found kind left e = absurd found
statement_fails labels immediate c are end last (piece ∷ pieces) (one ∷ lexemes) found kind left e =
    begun one.token refl (made_fails (begun_at immediate c one.token one.left lexemes) (λ (s : Statement). Some s) (misfit kind left) e)
  where
    here : ◌≡◌ {A = ℕ} one.left left → NameFault c piece.text kind → HasStatementFault labels c (piece ∷ pieces) end left kind
    here is fault =
        let left_is = found.0.left_is in
        record { before = piece.before; place = omega (arith, left_is, is); fault = inl (record { name = piece; more = pieces; first = refl; place = refl; fault = fault }) }

    placed : (name : List ℕ) (sort : Sort) (m : Option AsmKind) → IsText (Name name) piece.text → sort_named name ≡ Some sort → misplacement c sort ≡ m
        → unless_fault m one.left (fields_at immediate sort lexemes) ≡ Err (misfit kind left) → HasStatementFault labels c (piece ∷ pieces) end left kind
    placed name sort (Some k) t s p e =
        let same = same_misfit {B = Statement} k kind one.left left e in
        let own : IsText (Name piece.text) piece.text = subst (λ (x : List ℕ). IsText (Name x) piece.text) (sym t.0) t in
        here same.1 (inr (inr (inr (record { sort = sort; is = record { is = own; named = ap sort_named t.0 ∙ s }; misplaced = p ∙ ap (λ (x : AsmKind). Some x) same.0 }))))
    placed name sort None t s p e =
        let h = (fields_judged labels immediate are sort end piece pieces lexemes found.1 kind left).0 e in
        let own : IsText (Name piece.text) piece.text = subst (λ (x : List ℕ). IsText (Name x) piece.text) (sym t.0) t in
        record { before = h.before; place = h.place; fault = inr (record { name = piece; more = pieces; first = refl; sort = sort; is = record { is = own; named = ap sort_named t.0 ∙ s }; stands = p; fault = h.fault }) }

    sorted : (name : List ℕ) (sort : Option Sort) → IsText (Name name) piece.text → sort_named name ≡ sort → sorted_at immediate c sort one.left lexemes ≡ Err (misfit kind left)
        → HasStatementFault labels c (piece ∷ pieces) end left kind
    sorted name None t s e =
        let same = same_misfit {B = Statement} UnknownName kind one.left left e in
        let own : IsText (Name piece.text) piece.text = subst (λ (x : List ℕ). IsText (Name x) piece.text) (sym t.0) t in
        here same.1 (inr (inr (inl (record { is = own; none = ap sort_named t.0 ∙ s; kind_is = sym same.0 }))))
    sorted name (Some sort) t s e = placed name sort (misplacement c sort) t s refl e

    other : (token : Token) → token_of_text piece.text ≡ Ok token → ((name : List ℕ) → token ≡ Name name → ⊥) → ◌≡◌ {A = Result Statement Misfit} (Err (misfit BadToken one.left)) (Err (misfit kind left))
        → HasStatementFault labels c (piece ∷ pieces) end left kind
    other token read no_name e =
        let same = same_misfit {B = Statement} BadToken kind one.left left e in
        here same.1 (inr (inl (record { token = token; is = piece_writes piece.text token found.0.is_piece read; no_name = no_name; kind_is = sym same.0 })))

    begun : (token : Result Token AsmKind) → one.token ≡ token → begun_at immediate c token one.left lexemes ≡ Err (misfit kind left) → HasStatementFault labels c (piece ∷ pieces) end left kind
    begun (Err k) t e =
        let same = same_misfit {B = Statement} k kind one.left left e in
        here same.1 (inl (own_is piece.text kind found.0.is_piece (sym found.0.token_is ∙ t ∙ rw same.0 refl)))
    begun (Ok (Name name)) t e = sorted name (sort_named name) (piece_writes piece.text (Name name) found.0.is_piece (sym found.0.token_is ∙ t)) refl e
    begun (Ok (Number z)) t e = other (Number z) (sym found.0.token_is ∙ t) (λ name is. cc) e
    begun (Ok (Mark m)) t e = other (Mark m) (sym found.0.token_is ∙ t) (λ name is. cc) e

first_of_two : (a b : Piece) (xs ys : List Piece) → a ∷ xs ≡ b ∷ ys → (a ≡ b) × (xs ≡ ys)
first_of_two a b xs ys e = (cc, cc)

as_statement : (immediate : List ℕ → Option ℤ) (c : Context) (one : Lexeme) (lexemes : List Lexeme) (m : Misfit) → begun_at immediate c one.token one.left lexemes ≡ Err m → statement_at immediate c (one ∷ lexemes) ≡ Err m
as_statement immediate c one lexemes m e = rw e refl

name_faults : (labels : List (List ℕ)) (immediate : List ℕ → Option ℤ) (c : Context) (end : ℕ) (last : Option Piece) (piece : Piece) (one : Lexeme) (lexemes : List Lexeme)
    → IsFound end last one piece → (kind : AsmKind) → NameFault c piece.text kind → begun_at immediate c one.token one.left lexemes ≡ Err (misfit kind one.left)
name_faults labels immediate c end last piece one lexemes found kind (inl own) =
    let read : one.token ≡ Err kind = found.token_is ∙ own_read piece.text kind own in rw read refl
name_faults labels immediate c end last piece one lexemes found kind (inr (inl o)) =
    let read : one.token ≡ Ok o.token = found.token_is ∙ piece_reads piece.text o.token found.is_piece o.is in
    rw (read, o.kind_is) (by_token o.token o.no_name)
  where
    by_token : (token : Token) → ((name : List ℕ) → token ≡ Name name → ⊥) → begun_at immediate c (Ok token) one.left lexemes ≡ Err (misfit BadToken one.left)
    by_token (Name name) no_name = absurd (no_name name refl)
    by_token (Number z) no_name = refl
    by_token (Mark m) no_name = refl
name_faults labels immediate c end last piece one lexemes found kind (inr (inr (inl u))) =
    let read : one.token ≡ Ok (Name piece.text) = found.token_is ∙ piece_reads piece.text (Name piece.text) found.is_piece u.is in
    rw (read, u.none, u.kind_is) refl
name_faults labels immediate c end last piece one lexemes found kind (inr (inr (inr m))) =
    let read : one.token ≡ Ok (Name piece.text) = found.token_is ∙ piece_reads piece.text (Name piece.text) found.is_piece m.is.is in
    rw (read, m.is.named, m.misplaced) refl

statement_faults : (labels : List (List ℕ)) (immediate : List ℕ → Option ℤ) (c : Context) → AreTargets labels immediate → (end : ℕ) (last : Option Piece) (pieces : List Piece) (lexemes : List Lexeme)
    → AreFound end last lexemes pieces → (kind : AsmKind) (left before : ℕ) → left + before ≡ end → StatementFault labels c pieces end before kind → statement_at immediate c lexemes ≡ Err (misfit kind left)
statement_faults labels immediate c are end last [] [] found kind left before place (inl n) = absurd (let none = n.first in cc)
statement_faults labels immediate c are end last [] [] found kind left before place (inr f) = absurd (let none = f.first in cc)
statement_faults labels immediate c are end last [] (one ∷ lexemes) found kind left before place fault = absurd found
statement_faults labels immediate c are end last (piece ∷ pieces) [] found kind left before place fault = absurd found
statement_faults labels immediate c are end last (piece ∷ pieces) (one ∷ lexemes) found kind left before place (inl n) =
    let same = first_of_two piece n.name pieces n.more n.first in
    let at : before ≡ piece.before = n.place ∙ ap (λ (p : Piece). p.before) (sym same.0) in
    let left_is : one.left ≡ left = same_left one.left left piece.before before end found.0.left_is place at in
    let fault : NameFault c piece.text kind = subst (λ (p : Piece). NameFault c p.text kind) (sym same.0) n.fault in
    as_statement immediate c one lexemes (misfit kind left) (name_faults labels immediate c end last piece one lexemes found.0 kind fault ∙ rw left_is refl)
statement_faults labels immediate c are end last (piece ∷ pieces) (one ∷ lexemes) found kind left before place (inr f) =
    let same = first_of_two piece f.name pieces f.more f.first in
    let is : IsStatement piece.text f.sort = subst (λ (p : Piece). IsStatement p.text f.sort) (sym same.0) f.is in
    let fault : FieldsFault labels (shape_of f.sort) piece pieces end before kind =
    subst (λ (p : Piece). FieldsFault labels (shape_of f.sort) p pieces end before kind) (sym same.0) (subst (λ (ps : List Piece). FieldsFault labels (shape_of f.sort) f.name ps end before kind) (sym same.1) f.fault) in
    let read : one.token ≡ Ok (Name piece.text) = found.0.token_is ∙ piece_reads piece.text (Name piece.text) found.0.is_piece is.is in
    let fails = (fields_judged labels immediate are f.sort end piece pieces lexemes found.1 kind left).1 (record { before = before; place = place; fault = fault }) in
    as_statement immediate c one lexemes (misfit kind left) (rw (read, is.named, f.stands) fails)

-- the statement of a line is refused exactly where its pieces have a fault
pub statement_judged : (labels : List (List ℕ)) (immediate : List ℕ → Option ℤ) (c : Context) → AreTargets labels immediate → (end : ℕ) (last : Option Piece) (pieces : List Piece) (lexemes : List Lexeme)
    → AreFound end last lexemes pieces → (kind : AsmKind) (left : ℕ) → (statement_at immediate c lexemes ≡ Err (misfit kind left)) ↔ HasStatementFault labels c pieces end left kind
statement_judged labels immediate c are end last pieces lexemes found kind left = (
  statement_fails labels immediate c are end last pieces lexemes found kind left,
  λ h. statement_faults labels immediate c are end last pieces lexemes found kind left h.before h.place h.fault,
)
