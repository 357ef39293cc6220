-- What each level of reading owes to the next: tokens, statements, lines, texts. Each statement ties what is read to what is spelled.
use Rattle.std.specs.Prelude.{◌≡◌, ◌↔◌, ℕ, ◌+◌, ◌*◌, ◌^◌, Bool, true, false, List, [], ◌∷◌, drop, Option, Some, None, Result, Ok, ℤ, ⊤, IfSome}
use Rattle.std.specs.List.{AllZip, filter_map, fold}
use Rattle.std.specs.Option.{option_to_list}
use Rattle.spur_isa.specs.Ranges.{IsSigned16}
use Rattle.spur_isa.specs.declared.instr.Instr.{Instr}
use Rattle.spur_isa.specs.declared.instr.Instr.TheVariants as instrs
use Rattle.spur_asm.specs.Token.{Token, Mark}
use Rattle.spur_asm.specs.Spelling.{SpellsTokens}
use Rattle.spur_asm.specs.Item.{Item, Label, Page, Word, Board, Seg, Code, IsItem, item_tokens, SpellsLine}
use Rattle.spur_asm.specs.Section.{low_word, jump_of}
use Rattle.spur_asm.specs.Lexeme.{Lexeme, lexemes_of}
use Rattle.spur_asm.specs.Context.{Placed, leading_label, label_fault, misplacement, immediate_of, next_context, with_label, with_sort}
use Rattle.spur_asm.specs.Statements.{fields_at}
use Rattle.spur_asm.specs.Line.{statement_of_line}
use Rattle.spur_asm.specs.Laws.{ReadsWhatIsSaid}
use Rattle.spur_asm.specs.declared.fault.AsmKind.{AsmKind}
use Rattle.spur_asm.specs.declared.statement.Context.{Context}
use Rattle.spur_asm.specs.declared.statement.Operation.{Operation}
use Rattle.spur_asm.specs.declared.statement.Operation.TheVariants as operations
use Rattle.spur_asm.specs.declared.statement.Sort.{Sort}
use Rattle.spur_asm.specs.declared.statement.Sort.TheVariants as sorts
use Rattle.spur_asm.specs.declared.statement.Statement.{Statement}
use Rattle.spur_asm.specs.declared.statement.Statement.TheVariants as statements

-- ---- tokens

-- the token has no fault, and a blank before it where one is needed
pub record IsSound (lexeme : Lexeme) (token : Token) : Type 0 where
  pub token_is : lexeme.token ≡ Ok token
  pub free : lexeme.glued ≡ false

abbrev pub AreTokens : List Lexeme → List Token → Type 0
AreTokens lexemes tokens = AllZip IsSound lexemes tokens

-- a line is cut into the tokens by which it is spelled
abbrev pub TokensLaw : Type 0
TokensLaw = (line : List ℕ) (tokens : List Token) → SpellsTokens line tokens ↔ AreTokens (lexemes_of line) tokens

-- whether a lexeme is a mark
abbrev pub is_mark_token : Result Token AsmKind → Bool
is_mark_token (Ok (Mark mark)) = true
is_mark_token other = false

-- a mark is not glued, nor is what stands behind a mark, nor, where `free`, the first of these
abbrev pub AreFree : Bool → List Lexeme → Type 0
AreFree free [] = ⊤
AreFree free (one ∷ lexemes) = (free ≡ true → one.glued ≡ false) × (is_mark_token one.token ≡ true → one.glued ≡ false) × AreFree (is_mark_token one.token) lexemes

-- the first token of a line is not glued, nor is a mark, nor what stands behind one
abbrev pub FreeLaw : Type 0
FreeLaw = (line : List ℕ) → AreFree true (lexemes_of line)

-- ---- statements

abbrev pub operation_of : Instr → Operation
operation_of instrs.Halt = operations.Halt
operation_of instrs.Nop = operations.Nop
operation_of (instrs.Li a i) = operations.Li
operation_of (instrs.Lih a u) = operations.Lih
operation_of (instrs.AddI a b i) = operations.AddI
operation_of (instrs.Add a b c) = operations.Add
operation_of (instrs.Sub a b c) = operations.Sub
operation_of (instrs.And a b c) = operations.And
operation_of (instrs.Or a b c) = operations.Or
operation_of (instrs.Xor a b c) = operations.Xor
operation_of (instrs.Shl a b c) = operations.Shl
operation_of (instrs.Shr a b c) = operations.Shr
operation_of (instrs.Slt a b c) = operations.Slt
operation_of (instrs.SltU a b c) = operations.SltU
operation_of (instrs.Ld a b i) = operations.Ld
operation_of (instrs.St a b i) = operations.St
operation_of (instrs.Tas a b i) = operations.Tas
operation_of (instrs.Beq a b i) = operations.Beq
operation_of (instrs.Bne a b i) = operations.Bne
operation_of (instrs.Blt a b i) = operations.Blt
operation_of (instrs.Bge a b i) = operations.Bge
operation_of (instrs.Jmp i) = operations.Jmp
operation_of (instrs.Call a i) = operations.Call
operation_of (instrs.Jr a) = operations.Jr
operation_of (instrs.Show a) = operations.Show

abbrev pub sort_of : Item → Option Sort
sort_of (Label name) = None
sort_of (Page segment place prot) = Some sorts.Page
sort_of (Word segment offset value) = Some sorts.Word
sort_of Board = Some sorts.Board
sort_of (Seg first second third fourth) = Some sorts.Seg
sort_of (Code instr label) = Some (sorts.Code (operation_of instr))

-- the statement that is read where this item is spelled
abbrev pub statement_of : Item → Option Statement
statement_of (Label name) = None
statement_of (Page segment place prot) = Some (statements.Page (record { page = segment * 2 ^ 18 + place; prot = prot }))
statement_of (Word segment offset value) = Some (statements.Word (record { at = segment * 2 ^ 30 + offset; value = low_word value }))
statement_of Board = Some statements.Board
statement_of (Seg first second third fourth) = Some (statements.Seg (first ∷ second ∷ third ∷ fourth ∷ []))
statement_of (Code instr label) = Some (statements.Code instr)

-- an instruction that goes to a label has the immediate that leads to it
abbrev pub Leads : (List ℕ → Option ℤ) → Item → Type 0
Leads immediate (Code instr label) = IfSome (jump_of instr) (λ i. immediate label ≡ Some i)
Leads immediate other = ⊤

-- the tokens behind a statement's name are the fields of an item of this sort, which says the statement
pub record HasFields (immediate : List ℕ → Option ℤ) (sort : Sort) (lexemes : List Lexeme) (s : Statement) : Type 0 where
  pub item : Item
  pub has_sort : sort_of item ≡ Some sort
  pub says : statement_of item ≡ Some s
  pub in_range : IsItem item
  pub leads : Leads immediate item
  pub tokens : AreTokens lexemes (drop 1 (item_tokens item))

-- immediates have 16 bits and a sign
abbrev pub AllFit : (List ℕ → Option ℤ) → Type 0
AllFit immediate = (name : List ℕ) (i : ℤ) → immediate name ≡ Some i → IsSigned16 i

-- a statement is read exactly where its fields are spelled
abbrev pub FieldsLaw : Type 0
FieldsLaw = (immediate : List ℕ → Option ℤ) → AllFit immediate → (sort : Sort) (lexemes : List Lexeme) (s : Statement)
    → (fields_at immediate sort lexemes ≡ Ok s) ↔ HasFields immediate sort lexemes s

-- ---- lines

abbrev pub label_of : Item → Option (List ℕ)
label_of (Label name) = Some name
label_of other = None

-- the label of a line's items
abbrev pub label_of_line : List Item → Option (List ℕ)
label_of_line [] = None
label_of_line (item ∷ items) = label_of item

-- an item may stand in this context, and leads to a label if it has to
abbrev pub Stands : List Placed → Context → Item → Type 0
Stands all c (Label name) = label_fault all c name ≡ None
Stands all c item = IfSome (sort_of item) (λ sort. misplacement c sort ≡ None) × Leads (immediate_of all c) item

abbrev pub behind_item : Context → Item → Context
behind_item c item = with_sort (sort_of item) (with_label (label_of item) c)

abbrev pub behind_items : Context → List Item → Context
behind_items c items = fold behind_item c items

abbrev pub AllStand : List Placed → Context → List Item → Type 0
AllStand all c [] = ⊤
AllStand all c (item ∷ items) = Stands all c item × AllStand all (behind_item c item) items

-- the line spells items that may stand here, and their statement is this one, if there is one
pub record LineSays (all : List Placed) (c : Context) (line : List ℕ) (s : Option Statement) : Type 0 where
  pub items : List Item
  pub spelled : SpellsLine line items
  pub stand : AllStand all c items
  pub says : filter_map statement_of items ≡ option_to_list s

-- a line is read exactly where it is spelled and may stand
abbrev pub LineLaw : Type 0
LineLaw = (all : List Placed) (c : Context) (line : List ℕ) (s : Option Statement) → (statement_of_line all c line ≡ Ok s) ↔ LineSays all c line s

-- what stands before the next line
abbrev pub NextLaw : Type 0
NextLaw = (c : Context) (line : List ℕ) (items : List Item) → SpellsLine line items → next_context c line ≡ behind_items c items

-- the label of a line
abbrev pub LabelLaw : Type 0
LabelLaw = (line : List ℕ) (items : List Item) → SpellsLine line items → leading_label (lexemes_of line) ≡ label_of_line items

-- ---- from level to level

abbrev pub LinesFromTokens : Type 0
LinesFromTokens = TokensLaw → FreeLaw → FieldsLaw → LineLaw × NextLaw × LabelLaw

abbrev pub TextsFromLines : Type 0
TextsFromLines = LineLaw → NextLaw → LabelLaw → ReadsWhatIsSaid
