-- A line by its parts: its label, then the name of its statement, then the fields.
use Rattle.std.proofs.Common.{◌≡◌, ◌∙◌, sym, ap, ℕ, List, ◌∷◌, Option, Some, None, Result, Ok, Err, ℤ}
use Rattle.spur_asm.specs.Token.{Token, Name, Number, Mark}
use Rattle.spur_asm.specs.Lexeme.{Lexeme, lexemes_of}
use Rattle.spur_asm.specs.Names.{sort_named}
use Rattle.spur_asm.specs.Context.{Placed, behind_label, immediate_of, leading_label, misplacement, sort_in, sort_of_token, with_label, with_sort}
use Rattle.spur_asm.specs.Fields.{◌>>=◌, known}
use Rattle.spur_asm.specs.Statements.{fields_at}
use Rattle.spur_asm.specs.Line.{begun_at, head_fault, left_of, sorted_at, statement_at, statement_of_line, unless_fault}
use Rattle.spur_asm.specs.Step.{begun_with, sorted_or, step_at}
use Rattle.spur_asm.specs.declared.fault.AsmKind.{AsmKind}
use Rattle.spur_asm.specs.declared.fault.AsmKind.TheVariants.{UnknownName}
use Rattle.spur_asm.specs.declared.fault.Misfit.{Misfit}
use Rattle.spur_asm.specs.declared.statement.Context.{Context}
use Rattle.spur_asm.specs.declared.statement.Sort.{Sort}
use Rattle.spur_asm.specs.declared.statement.Statement.{Statement}

-- ---- a statement that was read, with its sort

abbrev with_its : Sort → Result Statement Misfit → Result (Statement × Sort) Misfit
with_its sort read = read >>= (λ s. Ok (s, sort))

unless_fault-Ok : (fault : Option AsmKind) (left : ℕ) (read : Result Statement Misfit) (sort is : Sort) (s : Statement) → unless_fault fault left (with_its sort read) ≡ Ok (s, is) → (unless_fault fault left read ≡ Ok s) × (sort ≡ is)
unless_fault-Ok None left (Ok t) sort is s e =
    let here : Statement × Sort = (t, sort) in
    let there : Statement × Sort = (s, is) in
    let same : here ≡ there = cc in
    (ap (λ (p : Statement × Sort). Ok p.0) same, ap (λ (p : Statement × Sort). p.1) same)
unless_fault-Ok None left (Err m) sort is s e = absurd cc
unless_fault-Ok (Some kind) left read sort is s e = absurd cc

unless_fault-Err : (fault : Option AsmKind) (left : ℕ) (read : Result Statement Misfit) (sort : Sort) (m : Misfit) → unless_fault fault left (with_its sort read) ≡ Err m → unless_fault fault left read ≡ Err m
unless_fault-Err None left (Ok t) sort m e = absurd cc
unless_fault-Err None left (Err n) sort m e = cc
unless_fault-Err (Some kind) left read sort m e = cc

sorted-Ok : (immediate : List ℕ → Option ℤ) (c : Context) (found : Option Sort) (left : ℕ) (lexemes : List Lexeme) (s : Statement) (sort : Sort)
    → sorted_or immediate c (known UnknownName found) left lexemes ≡ Ok (s, sort) → (sorted_at immediate c found left lexemes ≡ Ok s) × (found ≡ Some sort)
sorted-Ok immediate c None left lexemes s sort e = absurd cc
sorted-Ok immediate c (Some is) left lexemes s sort e =
    let read = unless_fault-Ok (misplacement c is) left (fields_at immediate is lexemes) is sort s e in
    (read.0, ap (λ (t : Sort). Some t) read.1)

sorted-Err : (immediate : List ℕ → Option ℤ) (c : Context) (found : Option Sort) (left : ℕ) (lexemes : List Lexeme) (m : Misfit)
    → sorted_or immediate c (known UnknownName found) left lexemes ≡ Err m → sorted_at immediate c found left lexemes ≡ Err m
sorted-Err immediate c None left lexemes m e = cc
sorted-Err immediate c (Some is) left lexemes m e = unless_fault-Err (misplacement c is) left (fields_at immediate is lexemes) is m e

begun-Ok : (immediate : List ℕ → Option ℤ) (c : Context) (token : Result Token AsmKind) (left : ℕ) (lexemes : List Lexeme) (s : Statement) (sort : Sort)
    → begun_with immediate c token left lexemes ≡ Ok (s, sort) → (begun_at immediate c token left lexemes ≡ Ok s) × (sort_of_token token ≡ Some sort)
begun-Ok immediate c (Err kind) left lexemes s sort e = absurd cc
begun-Ok immediate c (Ok (Name name)) left lexemes s sort e = sorted-Ok immediate c (sort_named name) left lexemes s sort e
begun-Ok immediate c (Ok (Number z)) left lexemes s sort e = absurd cc
begun-Ok immediate c (Ok (Mark mark)) left lexemes s sort e = absurd cc

begun-Err : (immediate : List ℕ → Option ℤ) (c : Context) (token : Result Token AsmKind) (left : ℕ) (lexemes : List Lexeme) (m : Misfit)
    → begun_with immediate c token left lexemes ≡ Err m → begun_at immediate c token left lexemes ≡ Err m
begun-Err immediate c (Err kind) left lexemes m e = cc
begun-Err immediate c (Ok (Name name)) left lexemes m e = sorted-Err immediate c (sort_named name) left lexemes m e
begun-Err immediate c (Ok (Number z)) left lexemes m e = cc
begun-Err immediate c (Ok (Mark mark)) left lexemes m e = cc

-- ---- a line whose label may stand, and that has a statement

-- a line by the fault of its label, what stands behind the label, and the label
abbrev stepped : (List ℕ → Option ℤ) → Context → Option AsmKind → ℕ → List Lexeme → Option (List ℕ) → Result (Option Statement × Context) Misfit
stepped immediate c fault left behind label = unless_fault fault left (statement_at immediate c behind) >>= (λ s. Ok (s, with_sort (sort_in behind) (with_label label c)))

-- and by its statement and its sort
abbrev told : Context → Result Statement Misfit → Option Sort → Option (List ℕ) → Result (Option Statement × Context) Misfit
told c read sort label = (read >>= (λ s. Ok (Some s))) >>= (λ s. Ok (s, with_sort sort (with_label label c)))

to_step : (all : List Placed) (c : Context) (line : List ℕ) (label : Option (List ℕ)) (one : Lexeme) (rest : List Lexeme)
    → label ≡ leading_label (lexemes_of line) → head_fault all c label ≡ None → behind_label (lexemes_of line) ≡ one ∷ rest
    → step_at all c line ≡ told c (begun_at (immediate_of all c) c one.token one.left rest) (sort_of_token one.token) label
unfolding statement_of_line
to_step all c line label one rest is_label stands behind =
    let left : ℕ = left_of (lexemes_of line) in
    ap (λ (o : Option (List ℕ)). stepped (immediate_of all c) c (head_fault all c o) left (behind_label (lexemes_of line)) o) (sym is_label)
    ∙ ap (λ (f : Option AsmKind). stepped (immediate_of all c) c f left (behind_label (lexemes_of line)) label) stands
    ∙ ap (λ (b : List Lexeme). stepped (immediate_of all c) c None left b label) behind

pub step-Ok : (all : List Placed) (c : Context) (line : List ℕ) (label : Option (List ℕ)) (one : Lexeme) (rest : List Lexeme) (s : Statement) (sort : Sort)
    → label ≡ leading_label (lexemes_of line) → head_fault all c label ≡ None → behind_label (lexemes_of line) ≡ one ∷ rest
    → begun_with (immediate_of all c) c one.token one.left rest ≡ Ok (s, sort)
    → step_at all c line ≡ Ok (Some s, with_sort (Some sort) (with_label label c))
step-Ok all c line label one rest s sort is_label stands behind e =
    let read = begun-Ok (immediate_of all c) c one.token one.left rest s sort e in
    to_step all c line label one rest is_label stands behind
    ∙ ap (λ (r : Result Statement Misfit). told c r (sort_of_token one.token) label) read.0
    ∙ ap (λ (o : Option Sort). told c (Ok s) o label) read.1

pub step-Err : (all : List Placed) (c : Context) (line : List ℕ) (label : Option (List ℕ)) (one : Lexeme) (rest : List Lexeme) (m : Misfit)
    → label ≡ leading_label (lexemes_of line) → head_fault all c label ≡ None → behind_label (lexemes_of line) ≡ one ∷ rest
    → begun_with (immediate_of all c) c one.token one.left rest ≡ Err m → step_at all c line ≡ Err m
step-Err all c line label one rest m is_label stands behind e =
    to_step all c line label one rest is_label stands behind
    ∙ ap (λ (r : Result Statement Misfit). told c r (sort_of_token one.token) label) (begun-Err (immediate_of all c) c one.token one.left rest m e)
