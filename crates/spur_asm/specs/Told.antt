-- The fault that reading tells of a text, line by line.
use Rattle.std.specs.Prelude.{◌≡◌, ℕ, ◌+◌, ◌-◌, ◌==◌, if◌then◌else◌, List, [], ◌∷◌, length, Option, Some, None, Result, Ok, Err}
use Rattle.std.specs.List.{before_first}
use Rattle.spur_object.specs.declared.unit.Unit as units
use Rattle.spur_asm.specs.Bytes.{is_semicolon}
use Rattle.spur_asm.specs.Context.{Placed, first_context, labels_from, next_context}
use Rattle.spur_asm.specs.Line.{statement_of_line}
use Rattle.spur_asm.specs.Text.{lines_of}
use Rattle.spur_asm.specs.declared.draft.Draft.{Draft}
use Rattle.spur_asm.specs.declared.fault.AsmFault.{AsmFault}
use Rattle.spur_asm.specs.declared.fault.AsmFault.TheVariants as faults
use Rattle.spur_asm.specs.declared.fault.AsmKind.{AsmKind}
use Rattle.spur_asm.specs.declared.fault.AsmKind.TheVariants.{NoBoard}
use Rattle.spur_asm.specs.declared.fault.Misfit.{Misfit}
use Rattle.spur_asm.specs.declared.statement.Context.{Context}
use Rattle.spur_asm.specs.declared.statement.Statement.{Statement}

-- a fault and its place: the line and the column, in bytes, both counted from 1
pub record Told : Type 0 where
  pub line : ℕ
  pub column : ℕ
  pub kind : AsmKind

-- the column of what has so many bytes of the line left from its first on, the comment not counted
abbrev pub column_of : List ℕ → ℕ → ℕ
column_of line left = length (before_first is_semicolon line) - left + 1

-- the fault of a line with this number
abbrev pub told_at : ℕ → List ℕ → Misfit → Told
told_at number line m = record { line = number; column = column_of line m.left; kind = m.kind }

-- the fault of a line, or else the one that is told of the lines behind it
abbrev pub first_told : ℕ → List ℕ → Result (Option Statement) Misfit → Option Told → Option Told
first_told number line (Err m) behind = Some (told_at number line m)
first_told number line (Ok s) behind = behind

-- the text ends, and has no fault of its own but that no board has begun
abbrev pub told_at_end : Context → Option Told
told_at_end c = if c.boards == 0 then Some (record { line = 1; column = 1; kind = NoBoard }) else None

-- the fault of these lines, of which the first has this number and stands in this context
abbrev pub told_from : List Placed → Context → ℕ → List (List ℕ) → Option Told
told_from all c number [] = told_at_end c
told_from all c number (line ∷ lines) = first_told number line (statement_of_line all c line) (told_from all (next_context c line) (number + 1) lines)

-- the fault of a text, if it has one
abbrev pub told_of : List ℕ → Option Told
told_of text = told_from (labels_from first_context (lines_of text)) first_context 1 (lines_of text)

-- ---- answers

-- the fault that is answered for the one that is told
abbrev pub answer_of : Told → AsmFault
answer_of told = faults.Bad told.kind told.line told.column

-- the answer is the draft that is read, or the fault that is told; want of memory is free
abbrev pub GivesDraft : Result Draft AsmFault → Result Draft Misfit → Option Told → Type 0
GivesDraft (Ok d) read told = read ≡ Ok d
GivesDraft (Err (faults.Bad kind line column)) read told = told ≡ Some (record { line = line; column = column; kind = kind })
GivesDraft (Err faults.NoMemory) read told = Unit {0}

-- the answer is the unit that is read, or the fault that is told; want of memory is free
abbrev pub GivesUnit : Result units.Unit AsmFault → Option units.Unit → Option Told → Type 0
GivesUnit (Ok unit) read told = read ≡ Some unit
GivesUnit (Err (faults.Bad kind line column)) read told = told ≡ Some (record { line = line; column = column; kind = kind })
GivesUnit (Err faults.NoMemory) read told = Unit {0}
