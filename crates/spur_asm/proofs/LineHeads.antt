-- The label and the name with which the tokens of a line begin.
use Rattle.std.proofs.Common.{◌≡◌, ℕ, ◌==◌, ◌&&◌, Bool, true, false, not, List, [], ◌∷◌, drop, Some, None, Result, Ok, refl, ap, ◌∙◌, if◌then◌else◌}
use Rattle.std.specs.Prelude.{codes}
use Rattle.spur_isa.specs.declared.instr.Instr.{Instr}
use Rattle.spur_isa.specs.declared.instr.Instr.TheVariants as instrs
use Rattle.spur_asm.specs.Token.{Token, Name, Number, Mark, colon, is_dotted}
use Rattle.spur_asm.specs.Item.{Item, Label, Page, Word, Board, Seg, Code, item_tokens}
use Rattle.spur_asm.specs.Lexeme.{Lexeme}
use Rattle.spur_asm.specs.Names.{sort_named}
use Rattle.spur_asm.specs.Context.{label_of_two, leading_label}
use Rattle.spur_asm.specs.declared.fault.AsmKind.{AsmKind}
use Rattle.spur_asm.specs.declared.statement.Sort.{Sort}
use Rattle.spur_asm.proofs.Levels.{IsSound, AreTokens, sort_of}

-- ---- names of statements

abbrev pub instr_name : Instr → List ℕ
instr_name instrs.Halt = codes "halt"
instr_name instrs.Nop = codes "nop"
instr_name (instrs.Li a i) = codes "li"
instr_name (instrs.Lih a u) = codes "lih"
instr_name (instrs.AddI a b i) = codes "addi"
instr_name (instrs.Add a b c) = codes "add"
instr_name (instrs.Sub a b c) = codes "sub"
instr_name (instrs.And a b c) = codes "and"
instr_name (instrs.Or a b c) = codes "or"
instr_name (instrs.Xor a b c) = codes "xor"
instr_name (instrs.Shl a b c) = codes "shl"
instr_name (instrs.Shr a b c) = codes "shr"
instr_name (instrs.Slt a b c) = codes "slt"
instr_name (instrs.SltU a b c) = codes "sltu"
instr_name (instrs.Ld a b i) = codes "ld"
instr_name (instrs.St a b i) = codes "st"
instr_name (instrs.Tas a b i) = codes "tas"
instr_name (instrs.Beq a b i) = codes "beq"
instr_name (instrs.Bne a b i) = codes "bne"
instr_name (instrs.Blt a b i) = codes "blt"
instr_name (instrs.Bge a b i) = codes "bge"
instr_name (instrs.Jmp i) = codes "jmp"
instr_name (instrs.Call a i) = codes "call"
instr_name (instrs.Jr a) = codes "jr"
instr_name (instrs.Show a) = codes "show"

-- the name with which an item begins
abbrev pub item_name : Item → List ℕ
item_name (Label name) = name
item_name (Page segment place prot) = codes ".page"
item_name (Word segment offset value) = codes ".word"
item_name Board = codes ".board"
item_name (Seg first second third fourth) = codes ".seg"
item_name (Code instr label) = instr_name instr

-- the token behind a statement's name is no colon
abbrev pub no_colon : List Token → Bool
no_colon [] = true
no_colon (Name name ∷ tokens) = true
no_colon (Number z ∷ tokens) = true
no_colon (Mark mark ∷ tokens) = not (mark == 58)

-- what an item's tokens are: its name, and fields that do not begin with a colon; the name is in the table of sorts
pub record IsTold (item : Item) : Type 0 where
  pub tokens : item_tokens item ≡ Name (item_name item) ∷ drop 1 (item_tokens item)
  pub fields : no_colon (drop 1 (item_tokens item)) ≡ true
  pub sort : sort_named (item_name item) ≡ sort_of item

told_instr : (instr : Instr) (label : List ℕ) → IsTold (Code instr label)
told_instr instrs.Halt label = record { tokens = refl; fields = refl; sort = refl }
told_instr instrs.Nop label = record { tokens = refl; fields = refl; sort = refl }
told_instr (instrs.Li a i) label = record { tokens = refl; fields = refl; sort = refl }
told_instr (instrs.Lih a u) label = record { tokens = refl; fields = refl; sort = refl }
told_instr (instrs.AddI a b i) label = record { tokens = refl; fields = refl; sort = refl }
told_instr (instrs.Add a b c) label = record { tokens = refl; fields = refl; sort = refl }
told_instr (instrs.Sub a b c) label = record { tokens = refl; fields = refl; sort = refl }
told_instr (instrs.And a b c) label = record { tokens = refl; fields = refl; sort = refl }
told_instr (instrs.Or a b c) label = record { tokens = refl; fields = refl; sort = refl }
told_instr (instrs.Xor a b c) label = record { tokens = refl; fields = refl; sort = refl }
told_instr (instrs.Shl a b c) label = record { tokens = refl; fields = refl; sort = refl }
told_instr (instrs.Shr a b c) label = record { tokens = refl; fields = refl; sort = refl }
told_instr (instrs.Slt a b c) label = record { tokens = refl; fields = refl; sort = refl }
told_instr (instrs.SltU a b c) label = record { tokens = refl; fields = refl; sort = refl }
told_instr (instrs.Ld a b i) label = record { tokens = refl; fields = refl; sort = refl }
told_instr (instrs.St a b i) label = record { tokens = refl; fields = refl; sort = refl }
told_instr (instrs.Tas a b i) label = record { tokens = refl; fields = refl; sort = refl }
told_instr (instrs.Beq a b i) label = record { tokens = refl; fields = refl; sort = refl }
told_instr (instrs.Bne a b i) label = record { tokens = refl; fields = refl; sort = refl }
told_instr (instrs.Blt a b i) label = record { tokens = refl; fields = refl; sort = refl }
told_instr (instrs.Bge a b i) label = record { tokens = refl; fields = refl; sort = refl }
told_instr (instrs.Jmp i) label = record { tokens = refl; fields = refl; sort = refl }
told_instr (instrs.Call a i) label = record { tokens = refl; fields = refl; sort = refl }
told_instr (instrs.Jr a) label = record { tokens = refl; fields = refl; sort = refl }
told_instr (instrs.Show a) label = record { tokens = refl; fields = refl; sort = refl }

-- each item but a label is told so
pub told : (item : Item) (sort : Sort) → sort_of item ≡ Some sort → IsTold item
told (Label name) sort is = absurd cc
told (Page segment place prot) sort is = record { tokens = refl; fields = refl; sort = refl }
told (Word segment offset value) sort is = record { tokens = refl; fields = refl; sort = refl }
told Board sort is = record { tokens = refl; fields = refl; sort = refl }
told (Seg first second third fourth) sort is = record { tokens = refl; fields = refl; sort = refl }
told (Code instr label) sort is = told_instr instr label

-- ---- the head of a list of tokens

-- tokens that begin with a name, whatever follows
pub record Begins (lexemes : List Lexeme) (name : List ℕ) (tokens : List Token) : Type 0 where
  pub one : Lexeme
  pub others : List Lexeme
  pub is : lexemes ≡ one ∷ others
  pub sound : IsSound one (Name name)
  pub fields : AreTokens others tokens

pub begins : (lexemes : List Lexeme) (name : List ℕ) (tokens : List Token) → AreTokens lexemes (Name name ∷ tokens) → Begins lexemes name tokens
begins [] name tokens are = absurd are
begins (one ∷ others) name tokens are = record { one = one; others = others; is = refl; sound = are.0; fields = are.1 }

no_label_by : (one other : Result Token AsmKind) (name : List ℕ) (token : Token) (tokens : List Token) → one ≡ Ok (Name name) → other ≡ Ok token → no_colon (token ∷ tokens) ≡ true
    → label_of_two one other ≡ None
no_label_by one other name (Name n) tokens first second fine = ap (λ (p : Result Token AsmKind × Result Token AsmKind). label_of_two p.0 p.1) (λ k. (first k, second k))
no_label_by one other name (Number z) tokens first second fine = ap (λ (p : Result Token AsmKind × Result Token AsmKind). label_of_two p.0 p.1) (λ k. (first k, second k))
no_label_by one other name (Mark mark) tokens first second fine =
    ap (λ (p : Result Token AsmKind × Result Token AsmKind). label_of_two p.0 p.1) (λ k. (first k, second k)) ∙ off (mark == 58) fine
  where
    off : (b : Bool) → not b ≡ true → (if b && not (is_dotted name) then Some name else None) ≡ None
    off true is = absurd cc
    off false is = refl

-- a statement's tokens begin with no label
pub no_label : (one : Lexeme) (others : List Lexeme) (name : List ℕ) (tokens : List Token) → IsSound one (Name name) → AreTokens others tokens → no_colon tokens ≡ true
    → leading_label (one ∷ others) ≡ None
no_label one [] name tokens sound fields fine = refl
no_label one (other ∷ others) name [] sound fields fine = absurd fields
no_label one (other ∷ others) name (token ∷ tokens) sound fields fine = no_label_by one.token other.token name token tokens sound.token_is fields.0.token_is fine

-- a label's tokens give its name
pub some_label : (one other : Lexeme) (others : List Lexeme) (name : List ℕ) → is_dotted name ≡ false → IsSound one (Name name) → IsSound other colon
    → leading_label (one ∷ other ∷ others) ≡ Some name
some_label one other others name plain first second =
    ap (λ (p : Result Token AsmKind × Result Token AsmKind). label_of_two p.0 p.1) (λ k. (first.token_is k, second.token_is k))
    ∙ ap (λ (b : Bool). if not b then Some name else None) plain
