-- A whole line is refused exactly where it has a fault, where the reader's counts are those of the lines before.
use Rattle.std.proofs.Common.{◌≡◌, ◌↔◌, inl, inr, ℕ, ◌+◌, ◌≤◌, Bool, true, false, not, ◌&&◌, cond, eqb, ltb, List, [], ◌∷◌, map, drop, length, Option, Some, None, Result, Ok, Err, refl, sym, ap, subst, ◌∙◌, arith}
use Rattle.std.proofs.lemmas.Bool.{and_from, and_parts, eqb-true, both_ways, le-ltb}
use Rattle.std.proofs.lemmas.Slice.Eq.{bytes_eq-Decides}
use Rattle.std.specs.Prelude.{codes}
use Rattle.std.specs.Option.{is_some}
use Rattle.std.specs.Str.{bytes_eq}
use Rattle.spur_asm.specs.Bytes.{is_name_start}
use Rattle.spur_asm.specs.Context.{Placed, leading_label, label_of_two, behind_label, behind_two, label_fault, immediate_of}
use Rattle.spur_asm.specs.Counts.{is_name_text, label_text, labels_before, counted, labels_around}
use Rattle.spur_asm.specs.Faults.{LabelFault, StatementFault, LineFault}
use Rattle.spur_asm.specs.Fields.{misfit}
use Rattle.spur_asm.specs.Lexeme.{Lexeme, lexemes_of}
use Rattle.spur_asm.specs.Line.{head_fault, left_of, statement_of_line, statement_of_lexemes, statement_at, unless_fault}
use Rattle.spur_asm.specs.Pieces.{Piece, Cut, IsCut, IsPiece, texts_of}
use Rattle.spur_asm.specs.Spelling.{IsName, IsText}
use Rattle.spur_asm.specs.Token.{Token, Name, Number, Mark, is_dotted}
use Rattle.spur_asm.specs.declared.fault.AsmKind.{AsmKind}
use Rattle.spur_asm.specs.declared.statement.Context.{Context}
use Rattle.spur_asm.specs.declared.statement.Statement.{Statement}
use Rattle.spur_asm.proofs.FieldKinds.{AreTargets}
use Rattle.spur_asm.proofs.Judging.{same_misfit, same_left}
use Rattle.spur_asm.proofs.LineFaults.{statement_judged}
use Rattle.spur_asm.proofs.PieceCuts.{line_found}
use Rattle.spur_asm.proofs.PieceFacts.{AreFound, token_of_text}
use Rattle.spur_asm.proofs.PieceTokens.{piece_writes}

-- ---- names and colons

not_true : (b : Bool) → not b ≡ true → b ≡ false
not_true true e = absurd cc
not_true false e = refl

pub name_read : (text : List ℕ) → is_name_text text ≡ true → token_of_text text ≡ Ok (Name text)
name_read [] e = absurd cc
name_read (b ∷ more) e =
    let p = and_parts (is_name_start b) (not (ltb 64 (length (b ∷ more)))) e in
    rw (p.0, not_true (ltb 64 (length (b ∷ more))) p.1) refl

pub name_named : (text : List ℕ) → IsName text → is_name_text text ≡ true
name_named text n = rw n.is (and_from (is_name_start n.first) (not (ltb 64 (length (n.first ∷ n.more)))) n.starts (rw (le-ltb 64 (length (n.first ∷ n.more)) (subst (λ (t : List ℕ). length t ≤ 64) n.is n.short)) refl))

pub no_name : (text : List ℕ) → IsPiece text [] → is_name_text text ≡ false → (name : List ℕ) → token_of_text text ≡ Ok (Name name) → ⊥
no_name text p e name t =
    let w : IsText (Name name) text = piece_writes text (Name name) p t in
    both_ways (is_name_text text) e (name_named text (subst (λ (x : List ℕ). IsName x) (sym w.0) w.1))

no_colon : (text : List ℕ) → IsPiece text [] → bytes_eq text (codes ":") ≡ false → token_of_text text ≡ Ok (Mark 58) → ⊥
no_colon text p e t =
    let w : IsText (Mark 58) text = piece_writes text (Mark 58) p t in
    both_ways (bytes_eq text (codes ":")) e ((bytes_eq-Decides text (codes ":")).1 w.0)

none_of_first : (one other : Result Token AsmKind) → ((name : List ℕ) → one ≡ Ok (Name name) → ⊥) → label_of_two one other ≡ None
none_of_first (Ok (Name name)) other none = absurd (none name refl)
none_of_first (Ok (Number z)) other none = refl
none_of_first (Ok (Mark m)) other none = refl
none_of_first (Err k) other none = refl

none_of_other : (name : List ℕ) (other : Result Token AsmKind) → (other ≡ Ok (Mark 58) → ⊥) → label_of_two (Ok (Name name)) other ≡ None
none_of_other name (Ok (Name n)) none = refl
none_of_other name (Ok (Number z)) none = refl
none_of_other name (Ok (Mark m)) none = by (eqb m 58) refl
  where
    by : (t : Bool) → eqb m 58 ≡ t → cond (t && not (is_dotted name)) (Some name) None ≡ None
    by true e = absurd (none (let same = eqb-true m 58 e in rw same refl))
    by false e = refl
none_of_other name (Err k) none = refl

two_label : (one other : List ℕ) (more : List (List ℕ)) → IsPiece one [] → IsPiece other [] → label_of_two (token_of_text one) (token_of_text other) ≡ label_text (one ∷ other ∷ more)
two_label one other more p q = by (is_name_text one) (bytes_eq other (codes ":")) refl refl
  where
    dotted : (d : Bool) → cond (d) (Some one) None ≡ cond (d && true) (Some one) None
    dotted true = refl
    dotted false = refl

    no_label : (a b : Bool) → b ≡ false → None ≡ cond (a && b) (Some one) None
    no_label true b e = rw e refl
    no_label false b e = refl

    by : (n c : Bool) → is_name_text one ≡ n → bytes_eq other (codes ":") ≡ c → label_of_two (token_of_text one) (token_of_text other) ≡ cond (n && not (is_dotted one) && c) (Some one) None
    by false c n e = none_of_first (token_of_text one) (token_of_text other) (no_name one p n)
    by true false n e = rw (name_read one n) (none_of_other one (token_of_text other) (no_colon other q e) ∙ no_label (not (is_dotted one)) false refl)
    by true true n e =
        let same : other ≡ codes ":" = (bytes_eq-Decides other (codes ":")).0 e in
        rw (name_read one n, same) (dotted (not (is_dotted one)))

-- ---- the head of a line

abbrev texts : List Piece → List (List ℕ)
texts pieces = map (λ piece. piece.text) pieces

pub label_found : (end : ℕ) (last : Option Piece) (pieces : List Piece) (lexemes : List Lexeme) → AreFound end last lexemes pieces → leading_label lexemes ≡ label_text (texts pieces)
label_found end last [] [] found = refl
label_found end last [] (one ∷ lexemes) found = absurd found
label_found end last (p ∷ pieces) [] found = absurd found
label_found end last (p ∷ []) (one ∷ []) found = refl
label_found end last (p ∷ []) (one ∷ other ∷ lexemes) found = absurd found.1
label_found end last (p ∷ q ∷ pieces) (one ∷ []) found = absurd found.1
label_found end last (p ∷ q ∷ pieces) (one ∷ other ∷ lexemes) found =
    rw (found.0.token_is, found.1.0.token_is) (two_label p.text q.text (texts pieces) found.0.is_piece found.1.0.is_piece)

-- the tokens behind the label are the pieces behind it
pub record Behind (end : ℕ) (lexemes : List Lexeme) (pieces : List Piece) : Type 0 where
  pub last : Option Piece
  pub found : AreFound end last lexemes pieces

pub behind_found : (end : ℕ) (last : Option Piece) (pieces : List Piece) (lexemes : List Lexeme) (label : Option (List ℕ)) → AreFound end last lexemes pieces → leading_label lexemes ≡ label
    → Behind end (cond (is_some label) (behind_two lexemes) lexemes) (drop (cond (is_some label) 2 0) pieces)
behind_found end last pieces lexemes None found is = record { last = last; found = found }
behind_found end last [] [] (Some name) found is = absurd cc
behind_found end last [] (one ∷ lexemes) (Some name) found is = absurd found
behind_found end last (p ∷ pieces) [] (Some name) found is = absurd found
behind_found end last (p ∷ pieces) (one ∷ []) (Some name) found is = absurd cc
behind_found end last (p ∷ []) (one ∷ other ∷ lexemes) (Some name) found is = absurd found.1
behind_found end last (p ∷ q ∷ pieces) (one ∷ other ∷ lexemes) (Some name) found is = record { last = Some q; found = found.1.1 }

-- ---- a line

-- what the reader carries agrees with the lines before and behind
pub record Agrees (lines : List Cut) (cut : Cut) (behind : List Cut) (all : List Placed) (c : Context) : Type 0 where
  pub counts : c ≡ counted lines
  pub label : (name : List ℕ) (kind : AsmKind) → (label_fault all c name ≡ Some kind) ↔ LabelFault lines (Some name) kind
  pub targets : AreTargets (labels_around lines (cut ∷ behind)) (immediate_of all c)

pub record HasLineFault (lines : List Cut) (cut : Cut) (behind : List Cut) (left : ℕ) (kind : AsmKind) : Type 0 where
  pub before : ℕ
  pub place : left + before ≡ cut.end
  pub fault : LineFault lines cut behind before kind

-- the label's fault, both ways
head_is : (lines : List Cut) (cut : Cut) (behind : List Cut) (all : List Placed) (c : Context) → Agrees lines cut behind all c → (label : Option (List ℕ)) (kind : AsmKind)
    → (head_fault all c label ≡ Some kind) ↔ LabelFault lines label kind
head_is lines cut behind all c a None kind = (λ e. cc, λ f. absurd f)
head_is lines cut behind all c a (Some name) kind = a.label name kind

line_fails : (lines : List Cut) (cut : Cut) (behind : List Cut) (all : List Placed) (c : Context) (lexemes : List Lexeme) → Agrees lines cut behind all c → AreFound cut.end None lexemes cut.pieces
    → (kind : AsmKind) (left : ℕ) → statement_of_lexemes all c lexemes ≡ Err (misfit kind left) → HasLineFault lines cut behind left kind
line_fails lines cut behind all c lexemes a found kind left e = by (head_fault all c (leading_label lexemes)) refl e
  where
    named : leading_label lexemes ≡ label_text (texts_of cut)
    named = label_found cut.end None cut.pieces lexemes found

    at_label : (pieces : List Piece) (ls : List Lexeme) → cut.pieces ≡ pieces → AreFound cut.end None ls pieces → leading_label ls ≡ label_text (texts pieces) → LabelFault lines (label_text (texts pieces)) kind → left_of ls ≡ left
        → HasLineFault lines cut behind left kind
    at_label [] ls is f n fault same = absurd fault
    at_label (p ∷ pieces) [] is f n fault same = absurd f
    at_label (p ∷ pieces) (one ∷ ls) is f n fault same =
        let left_is = f.0.left_is in
        let own : LabelFault lines (label_text (texts_of cut)) kind = subst (λ (ps : List Piece). LabelFault lines (label_text (texts ps)) kind) (sym is) fault in
        record { before = p.before; place = omega (arith, left_is, same); fault = inl (record { piece = p; more = pieces; first = is; place = refl; fault = own }) }

    by : (h : Option AsmKind) → head_fault all c (leading_label lexemes) ≡ h → unless_fault h (left_of lexemes) (statement_at (immediate_of all c) c (behind_label lexemes)) ≡ Err (misfit kind left)
        → HasLineFault lines cut behind left kind
    by (Some k) h e =
        let same = same_misfit {B = Option Statement} k kind (left_of lexemes) left e in
        let is : head_fault all c (label_text (texts_of cut)) ≡ Some kind = ap (head_fault all c) (sym named) ∙ h ∙ ap (λ (x : AsmKind). Some x) same.0 in
        at_label cut.pieces lexemes refl found named ((head_is lines cut behind all c a (label_text (texts_of cut)) kind).0 is) same.1
    by None h e =
        let b = behind_found cut.end None cut.pieces lexemes (leading_label lexemes) found refl in
        let s = (statement_judged (labels_around lines (cut ∷ behind)) (immediate_of all c) c a.targets cut.end b.last (drop (cond (is_some (leading_label lexemes)) 2 0) cut.pieces) (behind_label lexemes) b.found kind left).0 e in
        let fault : StatementFault (labels_around lines (cut ∷ behind)) c (drop (labels_before (texts_of cut)) cut.pieces) cut.end s.before kind =
        subst (λ (l : Option (List ℕ)). StatementFault (labels_around lines (cut ∷ behind)) c (drop (cond (is_some l) 2 0) cut.pieces) cut.end s.before kind) named s.fault in
        let none : (other : AsmKind) → LabelFault lines (label_text (texts_of cut)) other → ⊥ =
        (λ other f. (let is = (head_is lines cut behind all c a (label_text (texts_of cut)) other).1 f in let no : head_fault all c (label_text (texts_of cut)) ≡ None = ap (head_fault all c) (sym named) ∙ h in cc)) in
        record { before = s.before; place = s.place; fault = inr (record { no_label_fault = none; fault = subst (λ (x : Context). StatementFault (labels_around lines (cut ∷ behind)) x (drop (labels_before (texts_of cut)) cut.pieces) cut.end s.before kind) a.counts fault }) }

line_faults : (lines : List Cut) (cut : Cut) (behind : List Cut) (all : List Placed) (c : Context) (lexemes : List Lexeme) → Agrees lines cut behind all c → AreFound cut.end None lexemes cut.pieces
    → (kind : AsmKind) (left before : ℕ) → left + before ≡ cut.end → LineFault lines cut behind before kind → statement_of_lexemes all c lexemes ≡ Err (misfit kind left)
line_faults lines cut behind all c lexemes a found kind left before place (inl l) =
    let named = label_found cut.end None cut.pieces lexemes found in
    let h : head_fault all c (leading_label lexemes) ≡ Some kind = ap (head_fault all c) named ∙ (head_is lines cut behind all c a (label_text (texts_of cut)) kind).1 l.fault in
    let first : AreFound cut.end None lexemes (l.piece ∷ l.more) = subst (λ (ps : List Piece). AreFound cut.end None lexemes ps) l.first found in
    rw h (rw (at lexemes first) refl)
  where
    at : (ls : List Lexeme) → AreFound cut.end None ls (l.piece ∷ l.more) → left_of ls ≡ left
    at [] f = absurd f
    at (one ∷ ls) f = same_left one.left left l.piece.before before cut.end f.0.left_is place l.place
line_faults lines cut behind all c lexemes a found kind left before place (inr s) =
    let named = label_found cut.end None cut.pieces lexemes found in
    let b = behind_found cut.end None cut.pieces lexemes (leading_label lexemes) found refl in
    let counts : StatementFault (labels_around lines (cut ∷ behind)) c (drop (labels_before (texts_of cut)) cut.pieces) cut.end before kind =
    subst (λ (x : Context). StatementFault (labels_around lines (cut ∷ behind)) x (drop (labels_before (texts_of cut)) cut.pieces) cut.end before kind) (sym a.counts) s.fault in
    let fault : StatementFault (labels_around lines (cut ∷ behind)) c (drop (cond (is_some (leading_label lexemes)) 2 0) cut.pieces) cut.end before kind =
    subst (λ (l : Option (List ℕ)). StatementFault (labels_around lines (cut ∷ behind)) c (drop (cond (is_some l) 2 0) cut.pieces) cut.end before kind) (sym named) counts in
    let fails = (statement_judged (labels_around lines (cut ∷ behind)) (immediate_of all c) c a.targets cut.end b.last (drop (cond (is_some (leading_label lexemes)) 2 0) cut.pieces) (behind_label lexemes) b.found kind left).1
    (record { before = before; place = place; fault = fault }) in
    none (head_fault all c (leading_label lexemes)) refl fails
  where
    none : (h : Option AsmKind) → head_fault all c (leading_label lexemes) ≡ h → statement_at (immediate_of all c) c (behind_label lexemes) ≡ Err (misfit kind left)
        → unless_fault h (left_of lexemes) (statement_at (immediate_of all c) c (behind_label lexemes)) ≡ Err (misfit kind left)
    none None h e = e
    none (Some k) h e =
        absurd (s.no_label_fault k ((head_is lines cut behind all c a (label_text (texts_of cut)) k).0 (ap (head_fault all c) (sym (label_found cut.end None cut.pieces lexemes found)) ∙ h)))

-- a line is refused exactly where it has a fault, by that fault and at its place
pub line_judged : (line : List ℕ) (lines : List Cut) (cut : Cut) (behind : List Cut) (all : List Placed) (c : Context) → IsCut line cut → Agrees lines cut behind all c
    → (kind : AsmKind) (left : ℕ) → (statement_of_line all c line ≡ Err (misfit kind left)) ↔ HasLineFault lines cut behind left kind
unfolding statement_of_line
line_judged line lines cut behind all c is a kind left =
    let found = line_found line cut is in (
      line_fails lines cut behind all c (lexemes_of line) a found kind left,
      λ h. line_faults lines cut behind all c (lexemes_of line) a found kind left h.before h.place h.fault,
    )
