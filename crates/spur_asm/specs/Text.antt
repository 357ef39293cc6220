-- How a whole text is read.
use Rattle.std.specs.Prelude.{ℕ, if◌then◌else◌, List, [], ◌∷◌, Option, Some, None, Result, Ok, Err}
use Rattle.std.specs.List.{onto_first}
use Rattle.std.specs.Option.{is_some}
use Rattle.spur_object.specs.declared.unit.Unit as units
use Rattle.spur_asm.specs.Bytes.{is_feed}
use Rattle.spur_asm.specs.Context.{Placed, first_context, next_context, labels_from}
use Rattle.spur_asm.specs.Fields.{◌>>=◌, misfit}
use Rattle.spur_asm.specs.Line.{statement_of_line}
use Rattle.spur_asm.specs.Draft.{empty_draft, with_line_statement, unit_in}
use Rattle.spur_asm.specs.declared.draft.Draft.{Draft}
use Rattle.spur_asm.specs.declared.fault.AsmKind.TheVariants.{NoBoard}
use Rattle.spur_asm.specs.declared.fault.Misfit.{Misfit}
use Rattle.spur_asm.specs.declared.statement.Context.{Context}

-- the lines of a text, cut at its line feeds; a line feed at the end begins no further line
abbrev pub lines_of : List ℕ → List (List ℕ)
lines_of [] = []
lines_of (b ∷ bytes) = if is_feed b then [] ∷ lines_of bytes else onto_first b (lines_of bytes)

-- the draft behind the last line, if a board was begun
abbrev pub draft_at_end : Draft → Result Draft Misfit
draft_at_end d = if is_some d.begun then Ok d else Err (misfit NoBoard 0)

-- the draft of all lines, from a draft and its context on, or the fault of the first line that has one
abbrev pub draft_from : List Placed → Context → Draft → List (List ℕ) → Result Draft Misfit
draft_from all c d [] = draft_at_end d
draft_from all c d (line ∷ lines) = do
  s ← statement_of_line all c line
  draft_from all (next_context c line) (with_line_statement d s) lines

-- the draft of lines, in the light of the labels of them all
abbrev pub draft_in : List (List ℕ) → Result Draft Misfit
draft_in lines = draft_from (labels_from first_context lines) first_context empty_draft lines

-- the unit of what was read
abbrev pub unit_from : Result Draft Misfit → Option units.Unit
unit_from (Err m) = None
unit_from (Ok d) = Some (unit_in d)

-- the unit of a text, if the text has no fault
unfoldable pub unit_of : List ℕ → Option units.Unit
unit_of text = unit_from (draft_in (lines_of text))
