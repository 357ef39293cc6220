-- The faults of a text: a set of lines, columns and kinds. Nothing here reads.
use Rattle.std.specs.Prelude.{◌≡◌, ◌⊎◌, ℕ, ◌+◌, ◌<◌, ◌≤◌, true, false, List, ◌∷◌, ◌++◌, drop, length, Option, Some, None, slice_get}
use Rattle.std.specs.List.{AllZip, Contains}
use Rattle.spur_asm.specs.Says.{HasLines}
use Rattle.spur_asm.specs.Names.{sort_named}
use Rattle.spur_asm.specs.Spelling.{IsText}
use Rattle.spur_asm.specs.Token.{Token, Name}
use Rattle.spur_asm.specs.Pieces.{Piece, Cut, IsCut, texts_of, touches}
use Rattle.spur_asm.specs.Shapes.{Field, Fits, OwnFault, kind_against, shape_of}
use Rattle.spur_asm.specs.Counts.{label_text, labels_before, counted, labels_on, labels_around, lines_with, since_board, is_board}
use Rattle.spur_asm.specs.Context.{misplacement}
use Rattle.spur_asm.specs.declared.fault.AsmKind.{AsmKind}
use Rattle.spur_asm.specs.declared.fault.AsmKind.TheVariants.{BadToken, UnknownName, Twice, NoBoard}
use Rattle.spur_asm.specs.declared.statement.Context.{Context}
use Rattle.spur_asm.specs.declared.statement.Sort.{Sort}

-- ---- one piece

-- a piece that is this token, where it is not wanted as the field
pub record IsAgainst (field : Field) (text : List ℕ) (kind : AsmKind) : Type 0 where
  pub token : Token
  pub is : IsText token text
  pub kind_is : kind ≡ kind_against field token

-- the fault of a piece that does not fit the field, whether it lacks its blank or not
pub record DoesNotFit (labels : List (List ℕ)) (field : Field) (text : List ℕ) (kind : AsmKind) : Type 0 where
  pub no_fit : Fits labels field text → ⊥
  pub has_kind : OwnFault text kind ⊎ IsAgainst field text kind

-- the fault of a piece that fits, but lacks the blank before it
pub record LacksBlank (labels : List (List ℕ)) (field : Field) (last piece : Piece) (kind : AsmKind) : Type 0 where
  pub fits : Fits labels field piece.text
  pub touches_it : touches last piece ≡ true
  pub kind_is : kind ≡ BadToken

-- a piece where none is wanted
pub record IsToken (text : List ℕ) : Type 0 where
  pub token : Token
  pub is : IsText token text

abbrev pub IsLeftOver : List ℕ → AsmKind → Type 0
IsLeftOver text kind = OwnFault text kind ⊎ (IsToken text × (kind ≡ BadToken))

-- ---- the fields of a statement

-- field k is there, and piece k is there, fits it, and does not lack its blank
pub record FitsAt (labels : List (List ℕ)) (fields : List Field) (last : Piece) (pieces : List Piece) (k : ℕ) : Type 0 where
  pub field : Field
  pub field_is : slice_get fields k ≡ Some field
  pub piece : Piece
  pub piece_is : slice_get pieces k ≡ Some piece
  pub behind : Piece
  pub behind_is : slice_get (last ∷ pieces) k ≡ Some behind
  pub fits : Fits labels field piece.text
  pub apart : touches behind piece ≡ false

-- the fault of what stands where this field, or the end of the line, is wanted; the piece before is this one
abbrev pub IsFaultOf : List (List ℕ) → Option Field → Option Piece → Option Piece → ℕ → ℕ → AsmKind → Type 0
IsFaultOf labels (Some field) (Some piece) (Some behind) end before kind =
    (before ≡ piece.before) × (DoesNotFit labels field piece.text kind ⊎ LacksBlank labels field behind piece kind)
IsFaultOf labels None (Some piece) behind end before kind = (before ≡ piece.before) × IsLeftOver piece.text kind
IsFaultOf labels (Some field) None behind end before kind = (before ≡ end) × (kind ≡ BadToken)
IsFaultOf labels field piece behind end before kind = ⊥

-- the pieces behind a statement's name, which is the piece `last`, have this fault behind `before` bytes of the line: the pieces before fit
-- their fields, and this one does not
pub record FieldsFault (labels : List (List ℕ)) (fields : List Field) (last : Piece) (pieces : List Piece) (end before : ℕ) (kind : AsmKind) : Type 0 where
  pub number : ℕ
  pub so_far : (k : ℕ) → k < number → FitsAt labels fields last pieces k
  pub here : IsFaultOf labels (slice_get fields number) (slice_get pieces number) (slice_get (last ∷ pieces) number) end before kind

-- ---- the head of a line

-- the fault of a label on a line behind these: no board has begun, or the board has this label already
pub record IsEarly (before : List Cut) (kind : AsmKind) : Type 0 where
  pub none : lines_with is_board before ≡ 0
  pub kind_is : kind ≡ BadToken

pub record IsAgain (before : List Cut) (name : List ℕ) (kind : AsmKind) : Type 0 where
  pub some : 0 < lines_with is_board before
  pub again : Contains (labels_on (since_board before)) name
  pub kind_is : kind ≡ Twice

abbrev pub LabelFault : List Cut → Option (List ℕ) → AsmKind → Type 0
LabelFault before None kind = ⊥
LabelFault before (Some name) kind = IsEarly before kind ⊎ IsAgain before name kind

-- the piece is the name of a statement
pub record IsStatement (text : List ℕ) (sort : Sort) : Type 0 where
  pub is : IsText (Name text) text
  pub named : sort_named text ≡ Some sort

-- the piece is a name of no statement
pub record IsUnknown (text : List ℕ) (kind : AsmKind) : Type 0 where
  pub is : IsText (Name text) text
  pub none : sort_named text ≡ None
  pub kind_is : kind ≡ UnknownName

-- the piece is a mark or a number
pub record IsOther (text : List ℕ) (kind : AsmKind) : Type 0 where
  pub token : Token
  pub is : IsText token text
  pub no_name : (name : List ℕ) → token ≡ Name name → ⊥
  pub kind_is : kind ≡ BadToken

-- the statement of this name may not stand where so much stands before
pub record IsMisplaced (counts : Context) (text : List ℕ) (kind : AsmKind) : Type 0 where
  pub sort : Sort
  pub is : IsStatement text sort
  pub misplaced : misplacement counts sort ≡ Some kind

-- the fault of the piece with which a statement begins
abbrev pub NameFault : Context → List ℕ → AsmKind → Type 0
NameFault counts text kind = OwnFault text kind ⊎ (IsOther text kind ⊎ (IsUnknown text kind ⊎ IsMisplaced counts text kind))

-- ---- a statement

-- the statement that begins with the first of these pieces has a fault there
pub record AtName (counts : Context) (pieces : List Piece) (before : ℕ) (kind : AsmKind) : Type 0 where
  pub name : Piece
  pub more : List Piece
  pub first : pieces ≡ name ∷ more
  pub place : before ≡ name.before
  pub fault : NameFault counts name.text kind

-- the statement may stand here, and has a fault in its fields
pub record AtField (labels : List (List ℕ)) (counts : Context) (pieces : List Piece) (end before : ℕ) (kind : AsmKind) : Type 0 where
  pub name : Piece
  pub more : List Piece
  pub first : pieces ≡ name ∷ more
  pub sort : Sort
  pub is : IsStatement name.text sort
  pub stands : misplacement counts sort ≡ None
  pub fault : FieldsFault labels (shape_of sort) name more end before kind

abbrev pub StatementFault : List (List ℕ) → Context → List Piece → ℕ → ℕ → AsmKind → Type 0
StatementFault labels counts pieces end before kind = AtName counts pieces before kind ⊎ AtField labels counts pieces end before kind

-- ---- a line

-- the line's label may not stand here
pub record AtLabel (lines : List Cut) (cut : Cut) (before : ℕ) (kind : AsmKind) : Type 0 where
  pub piece : Piece
  pub more : List Piece
  pub first : cut.pieces ≡ piece ∷ more
  pub place : before ≡ piece.before
  pub fault : LabelFault lines (label_text (texts_of cut)) kind

-- the line's label has no fault, and its statement has one
pub record InStatement (lines : List Cut) (cut : Cut) (behind : List Cut) (before : ℕ) (kind : AsmKind) : Type 0 where
  pub no_label_fault : (other : AsmKind) → LabelFault lines (label_text (texts_of cut)) other → ⊥
  pub fault : StatementFault (labels_around lines (cut ∷ behind)) (counted lines) (drop (labels_before (texts_of cut)) cut.pieces) cut.end before kind

-- a line that stands behind these lines and before those has this fault, behind so many of its bytes
abbrev pub LineFault : List Cut → Cut → List Cut → ℕ → AsmKind → Type 0
LineFault lines cut behind before kind = AtLabel lines cut before kind ⊎ InStatement lines cut behind before kind

-- ---- a text

-- the lines of a text, and how each is cut
pub record CutText (text : List ℕ) : Type 0 where
  pub lines : List (List ℕ)
  pub has_lines : HasLines text lines
  pub cuts : List Cut
  pub are_cut : AllZip IsCut lines cuts

-- the line with this number, counted from 1, has a fault at this column, which is one more than the number of bytes before it
pub record InLine (cuts : List Cut) (line column : ℕ) (kind : AsmKind) : Type 0 where
  pub front : List Cut
  pub cut : Cut
  pub behind : List Cut
  pub are : cuts ≡ front ++ (cut ∷ behind)
  pub line_is : line ≡ length front + 1
  pub before : ℕ
  pub column_is : column ≡ before + 1
  pub fault : LineFault front cut behind before kind

-- no line has a fault and no board begins
pub record NoBoardAtAll (cuts : List Cut) (line column : ℕ) (kind : AsmKind) : Type 0 where
  pub no_other : (l c : ℕ) (k : AsmKind) → InLine cuts l c k → ⊥
  pub none : lines_with is_board cuts ≡ 0
  pub line_is : line ≡ 1
  pub column_is : column ≡ 1
  pub kind_is : kind ≡ NoBoard

-- the text has this fault
pub record HasFault (text : List ℕ) (line column : ℕ) (kind : AsmKind) : Type 0 where
  pub cut_text : CutText text
  pub fault : InLine cut_text.cuts line column kind ⊎ NoBoardAtAll cut_text.cuts line column kind

-- a line and a column stand before others, or there
abbrev pub IsNoLater : ℕ → ℕ → ℕ → ℕ → Type 0
IsNoLater line column other_line other_column = (line < other_line) ⊎ ((line ≡ other_line) × (column ≤ other_column))

-- of all faults of the text this is the one with the least line, and then the least column
pub record IsFirstFault (text : List ℕ) (line column : ℕ) (kind : AsmKind) : Type 0 where
  pub has : HasFault text line column kind
  pub first : (l c : ℕ) (k : AsmKind) → HasFault text l c k → IsNoLater line column l c
