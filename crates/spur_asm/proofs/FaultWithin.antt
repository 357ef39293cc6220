-- A line's fault stands in the line.
use Rattle.std.proofs.Common.{◌≡◌, ◌∙◌, inl, inr, refl, subst, ℕ, zero, suc, ◌≤◌, List, [], ◌∷◌, drop, Option, Some, None, arith}
use Rattle.std.specs.Prelude.{slice_get}
use Rattle.std.specs.List.{AllByRecursion}
use Rattle.spur_asm.specs.Counts.{counted, labels_around, labels_before}
use Rattle.spur_asm.specs.Faults.{IsFaultOf, LineFault, StatementFault}
use Rattle.spur_asm.specs.Lexeme.{Lexeme, lexemes_of}
use Rattle.spur_asm.specs.Pieces.{Cut, IsCut, Piece, texts_of}
use Rattle.spur_asm.specs.Shapes.{Field}
use Rattle.spur_asm.specs.declared.fault.AsmKind.{AsmKind}
use Rattle.spur_asm.specs.declared.statement.Context.{Context}
use Rattle.spur_asm.proofs.PieceCuts.{line_found}
use Rattle.spur_asm.proofs.PieceFacts.{AreFound}

-- the pieces begin within so many bytes
abbrev AreWithin : ℕ → List Piece → Type 0
AreWithin end pieces = AllByRecursion (λ piece. piece.before ≤ end) pieces

found_within : (end : ℕ) (last : Option Piece) (lexemes : List Lexeme) (pieces : List Piece) → AreFound end last lexemes pieces → AreWithin end pieces
found_within end last [] [] found = tt
found_within end last [] (piece ∷ pieces) found = absurd found
found_within end last (one ∷ lexemes) [] found = absurd found
found_within end last (one ∷ lexemes) (piece ∷ pieces) found = (let left = found.0.left_is in (omega (arith, left), found_within end (Some piece) lexemes pieces found.1))

dropped_within : (end n : ℕ) (pieces : List Piece) → AreWithin end pieces → AreWithin end (drop n pieces)
dropped_within end zero pieces h = h
dropped_within end (suc n) [] h = tt
dropped_within end (suc n) (piece ∷ pieces) h = dropped_within end n pieces h.1

at_within : (end n : ℕ) (pieces : List Piece) (o : Option Piece) (piece : Piece) → AreWithin end pieces → slice_get pieces n ≡ o → o ≡ Some piece → piece.before ≤ end
at_within end n [] o piece h is some = absurd (let same : None ≡ Some piece = is ∙ some in cc)
at_within end zero (p ∷ pieces) o piece h is some = (let same : p ≡ piece = (let both : Some p ≡ Some piece = is ∙ some in cc) in subst (λ (x : Piece). x.before ≤ end) same h.0)
at_within end (suc n) (p ∷ pieces) o piece h is some = at_within end n pieces o piece h.1 is some

fields_within : (labels : List (List ℕ)) (end n before : ℕ) (pieces : List Piece) (kind : AsmKind) → AreWithin end pieces → (field : Option Field) (piece behind : Option Piece) → slice_get pieces n ≡ piece
    → IsFaultOf labels field piece behind end before kind → before ≤ end
fields_within labels end n before pieces kind h (Some field) (Some piece) (Some behind) is here = (let low = at_within end n pieces (Some piece) piece h is refl in let place = here.0 in omega (arith, low, place))
fields_within labels end n before pieces kind h (Some field) (Some piece) None is here = absurd here
fields_within labels end n before pieces kind h None (Some piece) behind is here = (let low = at_within end n pieces (Some piece) piece h is refl in let place = here.0 in omega (arith, low, place))
fields_within labels end n before pieces kind h (Some field) None behind is here = (let place = here.0 in omega (arith, place))
fields_within labels end n before pieces kind h None None behind is here = absurd here

first_within : (end : ℕ) (pieces : List Piece) (piece : Piece) (more : List Piece) → AreWithin end pieces → pieces ≡ piece ∷ more → AreWithin end (piece ∷ more)
first_within end pieces piece more h is = subst (AreWithin end) is h

statement_within : (labels : List (List ℕ)) (counts : Context) (pieces : List Piece) (end before : ℕ) (kind : AsmKind) → AreWithin end pieces → StatementFault labels counts pieces end before kind → before ≤ end
statement_within labels counts pieces end before kind h (inl n) = (let low = (first_within end pieces n.name n.more h n.first).0 in let place = n.place in omega (arith, low, place))
statement_within labels counts pieces end before kind h (inr f) =
    fields_within labels end f.fault.number before f.more kind (first_within end pieces f.name f.more h f.first).1 _ _ _ refl f.fault.here

pub fault_within : (line : List ℕ) (front : List Cut) (cut : Cut) (behind : List Cut) (before : ℕ) (kind : AsmKind) → IsCut line cut → LineFault front cut behind before kind → before ≤ cut.end
fault_within line front cut behind before kind is (inl l) =
    let h = found_within cut.end None (lexemes_of line) cut.pieces (line_found line cut is) in
    let low = (first_within cut.end cut.pieces l.piece l.more h l.first).0 in
    let place = l.place in
    omega (arith, low, place)
fault_within line front cut behind before kind is (inr s) =
    let h = found_within cut.end None (lexemes_of line) cut.pieces (line_found line cut is) in
    statement_within (labels_around front (cut ∷ behind)) (counted front) (drop (labels_before (texts_of cut)) cut.pieces) cut.end before kind (dropped_within cut.end (labels_before (texts_of cut)) cut.pieces h) s.fault
