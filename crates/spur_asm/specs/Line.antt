-- How a whole line is read, in the light of what stands before it and of all labels.
use Rattle.std.specs.Prelude.{ℕ, List, [], ◌∷◌, Option, Some, None, Result, Ok, Err, ℤ}
use Rattle.spur_asm.specs.Token.{Token, Name}
use Rattle.spur_asm.specs.Lexeme.{Lexeme, lexemes_of}
use Rattle.spur_asm.specs.Names.{sort_named}
use Rattle.spur_asm.specs.Context.{Placed, leading_label, behind_label, label_fault, misplacement, immediate_of}
use Rattle.spur_asm.specs.Fields.{◌>>=◌, misfit}
use Rattle.spur_asm.specs.Statements.{fields_at}
use Rattle.spur_asm.specs.declared.fault.AsmKind.{AsmKind}
use Rattle.spur_asm.specs.declared.fault.AsmKind.TheVariants.{BadToken, UnknownName}
use Rattle.spur_asm.specs.declared.fault.Misfit.{Misfit}
use Rattle.spur_asm.specs.declared.statement.Context.{Context}
use Rattle.spur_asm.specs.declared.statement.Sort.{Sort}
use Rattle.spur_asm.specs.declared.statement.Statement.{Statement}

-- how many bytes are left from the first token on
abbrev pub left_of : List Lexeme → ℕ
left_of [] = 0
left_of (one ∷ lexemes) = one.left

-- the fault with this many bytes left, if there is one, and else what follows
abbrev pub unless_fault : {A : Type 0} → Option AsmKind → ℕ → Result A Misfit → Result A Misfit
unless_fault None left rest = rest
unless_fault (Some kind) left rest = Err (misfit kind left)

-- ---- the label at the head of a line

abbrev pub head_fault : List Placed → Context → Option (List ℕ) → Option AsmKind
head_fault all c None = None
head_fault all c (Some name) = label_fault all c name

-- ---- the statement behind it

-- a statement of this sort: whether it may stand here, and then its fields
abbrev pub sorted_at : (List ℕ → Option ℤ) → Context → Option Sort → ℕ → List Lexeme → Result Statement Misfit
sorted_at immediate c None left lexemes = Err (misfit UnknownName left)
sorted_at immediate c (Some sort) left lexemes = unless_fault (misplacement c sort) left (fields_at immediate sort lexemes)

-- the statement that begins with this token, which has to be a name
abbrev pub begun_at : (List ℕ → Option ℤ) → Context → Result Token AsmKind → ℕ → List Lexeme → Result Statement Misfit
begun_at immediate c (Err kind) left lexemes = Err (misfit kind left)
begun_at immediate c (Ok (Name name)) left lexemes = sorted_at immediate c (sort_named name) left lexemes
begun_at immediate c (Ok other) left lexemes = Err (misfit BadToken left)

-- the statement of these tokens, if there are any
abbrev pub statement_at : (List ℕ → Option ℤ) → Context → List Lexeme → Result (Option Statement) Misfit
statement_at immediate c [] = Ok None
statement_at immediate c (one ∷ lexemes) = do
  s ← begun_at immediate c one.token one.left lexemes
  Ok (Some s)

-- ---- a line

abbrev pub statement_of_lexemes : List Placed → Context → List Lexeme → Result (Option Statement) Misfit
statement_of_lexemes all c lexemes = unless_fault (head_fault all c (leading_label lexemes)) (left_of lexemes) (statement_at (immediate_of all c) c (behind_label lexemes))

-- the statement of a line, if it has one
unfoldable pub statement_of_line : List Placed → Context → List ℕ → Result (Option Statement) Misfit
statement_of_line all c line = statement_of_lexemes all c (lexemes_of line)
