-- Where the place of a fault is right, told by other lines: up to there the line can be gone on with, and not one piece further.
use Rattle.std.specs.Prelude.{true, ◌≡◌, ◌⊎◌, ◌↔◌, ℕ, ◌+◌, ◌<◌, List, ◌∷◌, take, length, Some, slice_get}
use Rattle.std.specs.List.{AllZip, Contains}
use Rattle.std.specs.Option.{is_some}
use Rattle.spur_asm.specs.Pieces.{Piece, Cut, IsCut, texts_of}
use Rattle.spur_asm.specs.Counts.{begins_board, is_board, label_text, labels_around, lines_with}
use Rattle.spur_asm.specs.Faults.{LineFault}
use Rattle.spur_asm.specs.declared.fault.AsmKind.{AsmKind}

-- a line keeps the first k pieces of this one: its first k are these, at their places; where k is not 0 it begins with a label exactly where
-- this one does
pub record Keeps (k : ℕ) (cut other : Cut) : Type 0 where
  pub pieces : take k other.pieces ≡ take k cut.pieces
  pub label : 0 < k → is_some (label_text (texts_of other)) ≡ is_some (label_text (texts_of cut))

-- the lines around a line, and how they are cut
pub record AreAround (front behind : List Cut) : Type 0 where
  pub front_lines : List (List ℕ)
  pub front_cut : AllZip IsCut front_lines front
  pub behind_lines : List (List ℕ)
  pub behind_cut : AllZip IsCut behind_lines behind

-- the line has a fault between these lines
abbrev pub HasSome : List Cut → Cut → List Cut → Type 0
HasSome front cut behind = (before : ℕ) × (kind : AsmKind) × LineFault front cut behind before kind

-- some line without a fault, between these lines, keeps the first k pieces of this one
pub record GoesOn (front : List Cut) (cut : Cut) (behind : List Cut) (k : ℕ) : Type 0 where
  pub line : List ℕ
  pub other : Cut
  pub is_cut : IsCut line other
  pub faultless : HasSome front other behind → ⊥
  pub keeps : Keeps k cut other

-- no board has begun, or the line begins a board, or the board has a label, this line's own among them
abbrev pub MayGoOn : List Cut → Cut → List Cut → Type 0
MayGoOn front cut behind = (lines_with is_board front ≡ 0) ⊎ ((begins_board cut ≡ true) ⊎ ((name : List ℕ) × Contains (labels_around front (cut ∷ behind)) name))

-- the line has a fault at its piece k, counted from 0
pub record AtPiece (front : List Cut) (cut : Cut) (behind : List Cut) (k : ℕ) : Type 0 where
  pub piece : Piece
  pub piece_is : slice_get cut.pieces k ≡ Some piece
  pub kind : AsmKind
  pub fault : LineFault front cut behind piece.before kind

-- the line has a fault at its end
abbrev pub AtEnd : List Cut → Cut → List Cut → Type 0
AtEnd front cut behind = (kind : AsmKind) × LineFault front cut behind cut.end kind

-- a line has a fault at its piece k exactly where the line can be gone on with up to there and not one piece further, and at its end exactly
-- where it has a fault and all its pieces can be gone on with
pub record PlacesAreRight (front : List Cut) (cut : Cut) (behind : List Cut) : Type 0 where
  pub pieces : (k : ℕ) → k < length cut.pieces → AtPiece front cut behind k ↔ (GoesOn front cut behind k × (GoesOn front cut behind (k + 1) → ⊥))
  pub end : AtEnd front cut behind ↔ (HasSome front cut behind × GoesOn front cut behind (length cut.pieces))
