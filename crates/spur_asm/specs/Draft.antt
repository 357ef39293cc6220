-- What statements add to a unit, one after the other.
use Rattle.std.specs.Prelude.{ℕ, List, [], ◌∷◌, ◌++◌, Option, Some, None}
use Rattle.std.specs.Option.{option_map, option_to_list}
use Rattle.spur_isa.specs.declared.instr.Instr.{Instr}
use Rattle.spur_object.specs.declared.unit.BoardText.{BoardText}
use Rattle.spur_object.specs.declared.unit.Unit as units
use Rattle.spur_asm.specs.Section.{first_segs}
use Rattle.spur_asm.specs.declared.draft.Draft.{Draft}
use Rattle.spur_asm.specs.declared.statement.Statement.{Statement}
use Rattle.spur_asm.specs.declared.statement.Statement.TheVariants.{Page, Word, Board, Seg, Code}

-- nothing was read yet
abbrev pub empty_draft : Draft
empty_draft = record { boards = []; begun = None; pages = []; words = [] }

-- a board without instructions
abbrev pub fresh_board : BoardText
fresh_board = record { segs = first_segs; code = [] }

abbrev pub with_segs : List ℕ → BoardText → BoardText
with_segs segs board = record board { segs = segs }

abbrev pub with_instr : Instr → BoardText → BoardText
with_instr instr board = record board { code = board.code ++ (instr ∷ []) }

-- the boards, with the one that was begun last
abbrev pub all_boards : Draft → List BoardText
all_boards d = d.boards ++ option_to_list d.begun

-- the draft with one more statement
abbrev pub with_statement : Draft → Statement → Draft
with_statement d (Page p) = record d { pages = d.pages ++ (p ∷ []) }
with_statement d (Word w) = record d { words = d.words ++ (w ∷ []) }
with_statement d Board = record d { boards = all_boards d; begun = Some fresh_board }
with_statement d (Seg segs) = record d { begun = option_map (with_segs segs) d.begun }
with_statement d (Code instr) = record d { begun = option_map (with_instr instr) d.begun }

-- the draft with the statement of one more line
abbrev pub with_line_statement : Draft → Option Statement → Draft
with_line_statement d None = d
with_line_statement d (Some statement) = with_statement d statement

-- the unit of a draft
abbrev pub unit_in : Draft → units.Unit
unit_in d = record { boards = all_boards d; pages = d.pages; words = d.words }
