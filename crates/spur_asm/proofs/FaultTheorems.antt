-- The laws of faults.
use Rattle.std.proofs.Common.{◌≡◌, refl, sym, subst, ℕ, ◌+◌, List, [], ◌∷◌, ◌++◌, Option, Some, None, Result, Ok, Err, arith}
use Rattle.spur_asm.specs.Context.{Placed, first_context, labels_from}
use Rattle.spur_asm.specs.Counts.{counted}
use Rattle.spur_asm.specs.FaultLaws.{CountsLines, CutsEachLine, FindsTheFault, FindsThePieces, HasOneFault, SaysWithoutFault, TellsTheFirstFault}
use Rattle.spur_asm.specs.Faults.{LineFault}
use Rattle.spur_asm.specs.Found.{AreFoundAs, IsTokenOf}
use Rattle.spur_asm.specs.Lexeme.{Lexeme, lexemes_of}
use Rattle.spur_asm.specs.Pieces.{IsPiece, Piece}
use Rattle.spur_asm.specs.Token.{Token}
use Rattle.spur_asm.specs.declared.fault.AsmKind.{AsmKind}
use Rattle.spur_asm.proofs.CountLaw.{next_counted}
use Rattle.spur_asm.proofs.CutOnce.{cut_once}
use Rattle.spur_asm.proofs.LabelsAround.{agrees, labels_are_placed, placed_cuts}
use Rattle.spur_asm.proofs.LineJudged.{Agrees, line_judged}
use Rattle.spur_asm.proofs.PieceCuts.{cut_of, line_found, line_is_cut}
use Rattle.spur_asm.proofs.PieceFacts.{AreFound, token_of_text}
use Rattle.spur_asm.proofs.PieceTokens.{own_is, piece_writes}
use Rattle.spur_asm.proofs.SilentTexts.{said_if_silent, silent_if_said}
use Rattle.spur_asm.proofs.TextFaults.{first_is_told, none_if_silent, one_in_line, silent_if_none, told_is_first}

pub cuts_each_line : CutsEachLine
cuts_each_line line = record { cut = cut_of line; is_cut = line_is_cut line; alone = λ other is. sym (cut_once line other is) }

token_of_piece : (text : List ℕ) (token : Result Token AsmKind) → IsPiece text [] → token ≡ token_of_text text → IsTokenOf text token
token_of_piece text (Ok token) p e = piece_writes text token p (sym e)
token_of_piece text (Err kind) p e = own_is text kind p (sym e)

found_as : (end : ℕ) (last : Option Piece) (lexemes : List Lexeme) (pieces : List Piece) → AreFound end last lexemes pieces → AreFoundAs end last lexemes pieces
found_as end last [] [] found = tt
found_as end last [] (piece ∷ pieces) found = absurd found
found_as end last (one ∷ lexemes) [] found = absurd found
found_as end last (one ∷ lexemes) (piece ∷ pieces) found =
    (record { token = token_of_piece piece.text one.token found.0.is_piece found.0.token_is; glued = found.0.glued_is; left = found.0.left_is }, found_as end (Some piece) lexemes pieces found.1)

pub finds_the_pieces : FindsThePieces
finds_the_pieces line cut is = found_as cut.end None (lexemes_of line) cut.pieces (line_found line cut is)

pub has_one_fault : HasOneFault
has_one_fault line front cut behind is before other_before kind other f g = one_in_line line front cut behind is before other_before kind other f g

same_before : (left a b end : ℕ) → left + a ≡ end → left + b ≡ end → a ≡ b
same_before left a b end e f = omega (arith, e, f)

pub finds_the_fault : FindsTheFault
finds_the_fault lines line front cut behind among before left kind place =
    let labels : labels_from first_context lines ≡ placed_cuts [] (front ++ (cut ∷ behind)) = labels_are_placed [] lines (front ++ (cut ∷ behind)) among.are_cut in
    let agree : Agrees front cut behind (labels_from first_context lines) (counted front) = subst (λ (ls : List Placed). Agrees front cut behind ls (counted front)) (sym labels) (agrees front cut behind) in
    let judged = line_judged line front cut behind (labels_from first_context lines) (counted front) among.is_cut agree kind left in (
      λ e. (let h = judged.0 e in subst (λ (n : ℕ). LineFault front cut behind n kind) (same_before left h.before before cut.end h.place place) h.fault),
      λ f. judged.1 (record { before = before; place = place; fault = f }),
    )

pub counts_lines : CountsLines
counts_lines = record { none = refl; more = λ line front cut is. next_counted line cut front is }

pub tells_the_first_fault : TellsTheFirstFault
tells_the_first_fault text = record {
  some = λ told. (told_is_first text told, first_is_told text told);
  none = (none_if_silent text, silent_if_none text);
}

pub says_without_fault : SaysWithoutFault
says_without_fault text = (
  λ none. said_if_silent text (silent_if_none text none),
  λ said. none_if_silent text (silent_if_said text said.0 said.1),
)
