-- What ties the faults of a text, which its lines tell as they are cut, to reading, to what the text says, and to one another.
use Rattle.std.specs.Prelude.{◌≡◌, ◌↔◌, ℕ, ◌+◌, List, [], ◌∷◌, ◌++◌, Some, None, Err}
use Rattle.std.specs.List.{AllZip}
use Rattle.spur_object.specs.declared.unit.Unit as units
use Rattle.spur_asm.specs.Context.{first_context, labels_from, next_context}
use Rattle.spur_asm.specs.Counts.{counted}
use Rattle.spur_asm.specs.Faults.{HasFault, IsFirstFault, LineFault}
use Rattle.spur_asm.specs.Fields.{misfit}
use Rattle.spur_asm.specs.Found.{AreFoundAs}
use Rattle.spur_asm.specs.Lexeme.{lexemes_of}
use Rattle.spur_asm.specs.Line.{statement_of_line}
use Rattle.spur_asm.specs.Pieces.{Cut, IsCut}
use Rattle.spur_asm.specs.Places.{AreAround, MayGoOn, PlacesAreRight}
use Rattle.spur_asm.specs.Says.{Says}
use Rattle.spur_asm.specs.Told.{Told, told_of}
use Rattle.spur_asm.specs.declared.fault.AsmKind.{AsmKind}

-- ---- lines

-- a line is cut in this way and in no other
pub record IsCutOnce (line : List ℕ) : Type 0 where
  pub cut : Cut
  pub is_cut : IsCut line cut
  pub alone : (other : Cut) → IsCut line other → other ≡ cut

-- each line is cut in one way
abbrev pub CutsEachLine : Type 0
CutsEachLine = (line : List ℕ) → IsCutOnce line

-- a line's tokens are its pieces
abbrev pub FindsThePieces : Type 0
FindsThePieces = (line : List ℕ) (cut : Cut) → IsCut line cut → AreFoundAs cut.end None (lexemes_of line) cut.pieces

-- a line has one fault at most
abbrev pub HasOneFault : Type 0
HasOneFault = (line : List ℕ) (front : List Cut) (cut : Cut) (behind : List Cut) → IsCut line cut → (before other_before : ℕ) (kind other : AsmKind)
    → LineFault front cut behind before kind → LineFault front cut behind other_before other → (kind ≡ other) × (before ≡ other_before)

-- lines of a text, as they are cut, and one line among them
pub record IsAmong (lines : List (List ℕ)) (line : List ℕ) (front : List Cut) (cut : Cut) (behind : List Cut) : Type 0 where
  pub are_cut : AllZip IsCut lines (front ++ (cut ∷ behind))
  pub is_cut : IsCut line cut

-- a line of a text is refused exactly where it has a fault, by that fault and at its place, which is told by the bytes that are left
abbrev pub FindsTheFault : Type 0
FindsTheFault = (lines : List (List ℕ)) (line : List ℕ) (front : List Cut) (cut : Cut) (behind : List Cut) → IsAmong lines line front cut behind
    → (before left : ℕ) (kind : AsmKind) → left + before ≡ cut.end
    → (statement_of_line (labels_from first_context lines) (counted front) line ≡ Err (misfit kind left)) ↔ LineFault front cut behind before kind

-- each fault of a line stands at its right place, which other lines tell
abbrev pub PlacesOfFaults : Type 0
PlacesOfFaults = (line : List ℕ) (front : List Cut) (cut : Cut) (behind : List Cut) → IsCut line cut → AreAround front behind → MayGoOn front cut behind → PlacesAreRight front cut behind

-- what reading carries from line to line are the counts over the lines before
pub record CountsLines : Type 0 where
  pub none : first_context ≡ counted []
  pub more : (line : List ℕ) (front : List Cut) (cut : Cut) → IsCut line cut → next_context (counted front) line ≡ counted (front ++ (cut ∷ []))

-- ---- texts

-- of a text its first fault is told, and none where it has none
pub record TellsTheFirst (text : List ℕ) : Type 0 where
  pub some : (told : Told) → (told_of text ≡ Some told) ↔ IsFirstFault text told.line told.column told.kind
  pub none : (told_of text ≡ None) ↔ ((line column : ℕ) (kind : AsmKind) → HasFault text line column kind → ⊥)

abbrev pub TellsTheFirstFault : Type 0
TellsTheFirstFault = (text : List ℕ) → TellsTheFirst text

-- a text has no fault exactly where it says a unit
abbrev pub SaysWithoutFault : Type 0
SaysWithoutFault = (text : List ℕ) → ((line column : ℕ) (kind : AsmKind) → HasFault text line column kind → ⊥) ↔ ((unit : units.Unit) × Says text unit)
