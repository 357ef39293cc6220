-- What stands before a line, the labels of all lines, and which statements and labels may stand where.
use Rattle.std.specs.Prelude.{ℕ, ◌+◌, ◌-◌, ◌%◌, ◌^◌, ◌≤◌, Bool, not, ◌&&◌, ◌==◌, nat_lt, if◌then◌else◌, List, [], ◌∷◌, take, Option, Some, None, Result, Ok, ℤ}
use Rattle.std.specs.Int.{w16, cast_signed}
use Rattle.std.specs.List.{list_any}
use Rattle.std.specs.Option.{is_some, option_map}
use Rattle.std.specs.Str.{bytes_eq}
use Rattle.spur_asm.specs.Token.{Token, Name, Mark, is_dotted}
use Rattle.spur_asm.specs.Lexeme.{Lexeme, lexemes_of}
use Rattle.spur_asm.specs.Names.{sort_named}
use Rattle.spur_asm.specs.declared.fault.AsmKind.{AsmKind}
use Rattle.spur_asm.specs.declared.fault.AsmKind.TheVariants.{BadToken, Twice, Limit}
use Rattle.spur_asm.specs.declared.label.Label as labels
use Rattle.spur_asm.specs.declared.statement.Context.{Context}
use Rattle.spur_asm.specs.declared.statement.Sort.{Sort}
use Rattle.spur_asm.specs.declared.statement.Sort.TheVariants.{Page, Word, Board, Seg, Code}

-- ---- the label of a line

-- a name without a leading `.`, and `:`
abbrev pub label_of_two : Result Token AsmKind → Result Token AsmKind → Option (List ℕ)
label_of_two (Ok (Name name)) (Ok (Mark mark)) = if mark == 58 && not (is_dotted name) then Some name else None
label_of_two one other = None

-- the label with which tokens begin, whatever follows
abbrev pub leading_label : List Lexeme → Option (List ℕ)
leading_label [] = None
leading_label (one ∷ []) = None
leading_label (one ∷ other ∷ lexemes) = label_of_two one.token other.token

-- the tokens behind the label, if there is one
abbrev pub behind_two : List Lexeme → List Lexeme
behind_two [] = []
behind_two (one ∷ []) = []
behind_two (one ∷ other ∷ lexemes) = lexemes

abbrev pub behind_label : List Lexeme → List Lexeme
behind_label lexemes = if is_some (leading_label lexemes) then behind_two lexemes else lexemes

-- ---- the sort of a line

abbrev pub sort_of_token : Result Token AsmKind → Option Sort
sort_of_token (Ok (Name name)) = sort_named name
sort_of_token other = None

-- the sort of the statement with which tokens begin, whatever follows its name
abbrev pub sort_in : List Lexeme → Option Sort
sort_in [] = None
sort_in (one ∷ lexemes) = sort_of_token one.token

-- ---- what stands before a line

abbrev pub first_context : Context
first_context = record { pages = 0; words = 0; boards = 0; segs = 0; codes = 0; labels = 0 }

-- behind a label
abbrev pub with_label : Option (List ℕ) → Context → Context
with_label None c = c
with_label (Some name) c = record c { labels = c.labels + 1 }

-- behind a statement of this sort; a board begins with no instruction and no `.seg`
abbrev pub with_sort : Option Sort → Context → Context
with_sort None c = c
with_sort (Some Page) c = record c { pages = c.pages + 1 }
with_sort (Some Word) c = record c { words = c.words + 1 }
with_sort (Some Board) c = record c { boards = c.boards + 1; segs = 0; codes = 0 }
with_sort (Some Seg) c = record c { segs = c.segs + 1 }
with_sort (Some (Code operation)) c = record c { codes = c.codes + 1 }

abbrev pub next_in : Context → List Lexeme → Context
next_in c lexemes = with_sort (sort_in (behind_label lexemes)) (with_label (leading_label lexemes) c)

-- the context of the line behind this one
abbrev pub next_context : Context → List ℕ → Context
next_context c line = next_in c (lexemes_of line)

-- each count is at most k
pub record IsWithin (k : ℕ) (c : Context) : Type 0 where
  pub pages : c.pages ≤ k
  pub words : c.words ≤ k
  pub boards : c.boards ≤ k
  pub segs : c.segs ≤ k
  pub codes : c.codes ≤ k
  pub labels : c.labels ≤ k

-- ---- the labels of all lines

-- a label: the number of its board, its name, and the number of the board's instructions before it
pub record Placed : Type 0 where
  pub board : ℕ
  pub name : List ℕ
  pub place : ℕ

abbrev pub placed_of : labels.Label → Placed
placed_of l = record { board = l.board; name = l.name.now; place = l.place }

abbrev pub onto_labels : Context → Option (List ℕ) → List Placed → List Placed
onto_labels c None all = all
onto_labels c (Some name) all = record { board = c.boards; name = name; place = c.codes } ∷ all

-- the labels of lines, of which the first has this context
abbrev pub labels_from : Context → List (List ℕ) → List Placed
labels_from c [] = []
labels_from c (line ∷ lines) = onto_labels c (leading_label (lexemes_of line)) (labels_from (next_context c line) lines)

-- whether a label is this board's and has this name
abbrev pub is_label : ℕ → List ℕ → Placed → Bool
is_label board name l = l.board == board && bytes_eq l.name name

-- whether one of these labels is this board's and has this name
abbrev pub has_label : List Placed → ℕ → List ℕ → Bool
has_label all board name = list_any (is_label board name) all

-- the place of the first label of this board with this name
abbrev pub place_named : List Placed → ℕ → List ℕ → Option ℕ
place_named [] board name = None
place_named (l ∷ all) board name = if is_label board name l then Some l.place else place_named all board name

-- from the place behind this one to another, as a number of 16 bits with a sign
abbrev pub distance : ℕ → ℕ → ℤ
distance here there = cast_signed w16 ((there + (2 ^ 16 - (here + 1) % 2 ^ 16)) % 2 ^ 16)

-- the immediate of an instruction of this line that goes to the label of this name
abbrev pub immediate_of : List Placed → Context → List ℕ → Option ℤ
immediate_of all c name = option_map (distance c.codes) (place_named all c.boards name)

-- ---- what may stand where

-- the fault of a label of this line: it stands before all boards, or one of the board's labels before has its name
abbrev pub label_fault : List Placed → Context → List ℕ → Option AsmKind
label_fault all c name = if c.boards == 0 then Some BadToken else (if has_label (take c.labels all) c.boards name then Some Twice else None)

-- the fault of one more statement where there may be this many
abbrev pub limit_fault : ℕ → ℕ → Option AsmKind
limit_fault most before = if nat_lt before most then None else Some Limit

-- the fault of a statement of this sort that stands here, if it may not stand here
abbrev pub misplacement : Context → Sort → Option AsmKind
misplacement c Page = limit_fault 2048 c.pages
misplacement c Word = limit_fault 65536 c.words
misplacement c Board = limit_fault 12 c.boards
misplacement c Seg = if c.boards == 0 then Some BadToken else (if c.segs == 0 then None else Some Twice)
misplacement c (Code operation) = if c.boards == 0 then Some BadToken else limit_fault 4096 c.codes
