-- The pieces of a line as a cursor finds them, one after the other.
use Rattle.std.specs.Prelude.{◌≡◌, ℕ, ◌+◌, Bool, false, List, [], ◌∷◌, Option, Some, None, Result, Ok, Err, ⊤}
use Rattle.spur_asm.specs.Lexeme.{Lexeme}
use Rattle.spur_asm.specs.Pieces.{Piece, touches}
use Rattle.spur_asm.specs.Shapes.{OwnFault}
use Rattle.spur_asm.specs.Spelling.{IsText}
use Rattle.spur_asm.specs.Token.{Token}
use Rattle.spur_asm.specs.declared.fault.AsmKind.{AsmKind}

-- the piece is this token, or has this fault by itself
abbrev pub IsTokenOf : List ℕ → Result Token AsmKind → Type 0
IsTokenOf text (Ok token) = IsText token text
IsTokenOf text (Err kind) = OwnFault text kind

-- whether a piece is a name or a number and no blank parts it from the one before
abbrev pub touches_last : Option Piece → Piece → Bool
touches_last None piece = false
touches_last (Some last) piece = touches last piece

-- what is told of a piece, behind which the line ends at so many bytes: its token, whether it lacks its blank, and how many bytes are left from
-- its first byte on
pub record IsFoundAs (end : ℕ) (last : Option Piece) (lexeme : Lexeme) (piece : Piece) : Type 0 where
  pub token : IsTokenOf piece.text lexeme.token
  pub glued : lexeme.glued ≡ touches_last last piece
  pub left : lexeme.left + piece.before ≡ end

abbrev pub AreFoundAs : ℕ → Option Piece → List Lexeme → List Piece → Type 0
AreFoundAs end last [] [] = ⊤
AreFoundAs end last (lexeme ∷ lexemes) (piece ∷ pieces) = IsFoundAs end last lexeme piece × AreFoundAs end (Some piece) lexemes pieces
AreFoundAs end last lexemes pieces = ⊥
