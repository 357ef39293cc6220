-- How the code goes from one line to the next.
use Rattle.std.specs.Prelude.{ℕ, List, Option, Result, Ok, Err, ℤ}
use Rattle.spur_asm.specs.Token.{Token, Name}
use Rattle.spur_asm.specs.Lexeme.{Lexeme}
use Rattle.spur_asm.specs.Names.{sort_named}
use Rattle.spur_asm.specs.Context.{Placed, misplacement, next_context}
use Rattle.spur_asm.specs.Fields.{◌>>=◌, known, misfit, token_value}
use Rattle.spur_asm.specs.Statements.{fields_at}
use Rattle.spur_asm.specs.Line.{statement_of_line, unless_fault}
use Rattle.spur_asm.specs.declared.fault.AsmKind.{AsmKind}
use Rattle.spur_asm.specs.declared.fault.AsmKind.TheVariants.{BadToken, UnknownName}
use Rattle.spur_asm.specs.declared.fault.Misfit.{Misfit}
use Rattle.spur_asm.specs.declared.statement.Context.{Context}
use Rattle.spur_asm.specs.declared.statement.Sort.{Sort}
use Rattle.spur_asm.specs.declared.statement.Statement.{Statement}

-- the sort of the statements that begin with this token
abbrev pub sort_of_name : Token → Result Sort AsmKind
sort_of_name (Name name) = known UnknownName (sort_named name)
sort_of_name other = Err BadToken

-- the statement of a sort, or the fault of its name
abbrev pub sorted_or : (List ℕ → Option ℤ) → Context → Result Sort AsmKind → ℕ → List Lexeme → Result (Statement × Sort) Misfit
sorted_or immediate c (Err kind) left lexemes = Err (misfit kind left)
sorted_or immediate c (Ok sort) left lexemes = unless_fault (misplacement c sort) left (do
  s ← fields_at immediate sort lexemes
  Ok (s, sort))

-- the statement that begins with this token, and its sort
abbrev pub begun_with : (List ℕ → Option ℤ) → Context → Result Token AsmKind → ℕ → List Lexeme → Result (Statement × Sort) Misfit
begun_with immediate c token left lexemes = sorted_or immediate c (token_value token sort_of_name) left lexemes

-- the statement of a line, and the context of the line behind it
abbrev pub step_at : List Placed → Context → List ℕ → Result (Option Statement × Context) Misfit
step_at all c line = do
  s ← statement_of_line all c line
  Ok (s, next_context c line)
