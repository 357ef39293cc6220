-- What a line says, and by which tokens. Nothing here reads.
use Rattle.std.specs.Prelude.{◌≡◌, ℕ, ◌+◌, ◌-◌, ◌%◌, ◌≤◌, nat_lt, if◌then◌else◌, false, List, [], ◌∷◌, ℤ, pos, negsuc, ◌≤ℤ◌, ⊤, codes}
use Rattle.std.specs.List.{All, flat_map}
use Rattle.spur_addr.specs.declared.page_entry.Protection.{Protection}
use Rattle.spur_addr.specs.declared.page_entry.Protection.TheVariants.{Nothing, ReadOnly, ReadWrite}
use Rattle.spur_isa.specs.Ranges.{IsInstr}
use Rattle.spur_isa.specs.declared.instr.Instr.{Instr}
use Rattle.spur_isa.specs.declared.instr.Instr.TheVariants.{Halt, Nop, Li, Lih, AddI, Add, Sub, And, Or, Xor, Shl, Shr, Slt, SltU, Ld, St, Tas, Beq, Bne, Blt, Bge, Jmp, Call, Jr, Show}
use Rattle.spur_asm.specs.Token.{Token, Name, Number, comma, colon, opening, closing, is_dotted}
use Rattle.spur_asm.specs.Spelling.{SpellsTokens}

-- a label or a statement. An instruction comes with the name of the label to which it goes, which counts only where it goes to one.
pub data Item : Type 0 where
  Label : (name : List ℕ) → Item
  Page : (segment place : ℕ) → (prot : Protection) → Item
  Word : (segment offset : ℕ) → (value : ℤ) → Item
  Board : Item
  Seg : (first second third fourth : ℕ) → Item
  Code : (instr : Instr) → (label : List ℕ) → Item

-- ---- the tokens of a label and of each statement

-- `r0` to `r15`, without leading zeros: `r` (114) and one digit (48 is `0`), or `r`, `1` (49) and one digit
abbrev pub register_text : ℕ → List ℕ
register_text a = if nat_lt a 10 then 114 ∷ (48 + a) ∷ [] else 114 ∷ 49 ∷ (48 + (a - 10)) ∷ []

abbrev pub register : ℕ → Token
register a = Name (register_text a)

abbrev pub protection_text : Protection → List ℕ
protection_text Nothing = codes "none"
protection_text ReadOnly = codes "ro"
protection_text ReadWrite = codes "rw"

-- `name a, b, c`
abbrev pub three_tokens : List ℕ → ℕ → ℕ → ℕ → List Token
three_tokens name a b c = Name name ∷ register a ∷ comma ∷ register b ∷ comma ∷ register c ∷ []

-- `name a, i(b)`
abbrev pub access_tokens : List ℕ → ℕ → ℕ → ℤ → List Token
access_tokens name a b i = Name name ∷ register a ∷ comma ∷ Number i ∷ opening ∷ register b ∷ closing ∷ []

-- `name a, b, label`
abbrev pub branch_tokens : List ℕ → ℕ → ℕ → List ℕ → List Token
branch_tokens name a b label = Name name ∷ register a ∷ comma ∷ register b ∷ comma ∷ Name label ∷ []

-- the tokens of an instruction; the label is the one to which it goes
abbrev pub instr_tokens : Instr → List ℕ → List Token
instr_tokens Halt label = Name (codes "halt") ∷ []
instr_tokens Nop label = Name (codes "nop") ∷ []
instr_tokens (Li a i) label = Name (codes "li") ∷ register a ∷ comma ∷ Number i ∷ []
instr_tokens (Lih a u) label = Name (codes "lih") ∷ register a ∷ comma ∷ Number (pos u) ∷ []
instr_tokens (AddI a b i) label = Name (codes "addi") ∷ register a ∷ comma ∷ register b ∷ comma ∷ Number i ∷ []
instr_tokens (Add a b c) label = three_tokens (codes "add") a b c
instr_tokens (Sub a b c) label = three_tokens (codes "sub") a b c
instr_tokens (And a b c) label = three_tokens (codes "and") a b c
instr_tokens (Or a b c) label = three_tokens (codes "or") a b c
instr_tokens (Xor a b c) label = three_tokens (codes "xor") a b c
instr_tokens (Shl a b c) label = three_tokens (codes "shl") a b c
instr_tokens (Shr a b c) label = three_tokens (codes "shr") a b c
instr_tokens (Slt a b c) label = three_tokens (codes "slt") a b c
instr_tokens (SltU a b c) label = three_tokens (codes "sltu") a b c
instr_tokens (Ld a b i) label = access_tokens (codes "ld") a b i
instr_tokens (St a b i) label = access_tokens (codes "st") a b i
instr_tokens (Tas a b i) label = access_tokens (codes "tas") a b i
instr_tokens (Beq a b i) label = branch_tokens (codes "beq") a b label
instr_tokens (Bne a b i) label = branch_tokens (codes "bne") a b label
instr_tokens (Blt a b i) label = branch_tokens (codes "blt") a b label
instr_tokens (Bge a b i) label = branch_tokens (codes "bge") a b label
instr_tokens (Jmp i) label = Name (codes "jmp") ∷ Name label ∷ []
instr_tokens (Call a i) label = Name (codes "call") ∷ register a ∷ comma ∷ Name label ∷ []
instr_tokens (Jr a) label = Name (codes "jr") ∷ register a ∷ []
instr_tokens (Show a) label = Name (codes "show") ∷ register a ∷ []

abbrev pub natural : ℕ → Token
natural n = Number (pos n)

-- the tokens of a label and of each statement: `name:`, `.page S P W`, `.word S O V`, `.board`, `.seg A B C D` and the instructions
abbrev pub item_tokens : Item → List Token
item_tokens (Label name) = Name name ∷ colon ∷ []
item_tokens (Page segment place prot) = Name (codes ".page") ∷ natural segment ∷ natural place ∷ Name (protection_text prot) ∷ []
item_tokens (Word segment offset value) = Name (codes ".word") ∷ natural segment ∷ natural offset ∷ Number value ∷ []
item_tokens Board = Name (codes ".board") ∷ []
item_tokens (Seg first second third fourth) = Name (codes ".seg") ∷ natural first ∷ natural second ∷ natural third ∷ natural fourth ∷ []
item_tokens (Code instr label) = instr_tokens instr label

-- ---- the ranges of their fields

-- a page of one of 256 segments, which have 2 ^ 18 pages each
pub record IsPageItem (segment place : ℕ) : Type 0 where
  pub segment_fits : segment ≤ 255
  pub place_fits : place ≤ 262143

-- a word of a segment, which stands at a multiple of 4, and a value that fits 32 bits with a sign or without one
pub record IsWordItem (segment offset : ℕ) (value : ℤ) : Type 0 where
  pub segment_fits : segment ≤ 255
  pub offset_fits : offset ≤ 1073741820
  pub aligned : offset % 4 ≡ 0
  pub least : negsuc 2147483647 ≤ℤ value
  pub most : value ≤ℤ pos 4294967295

pub record IsSegItem (first second third fourth : ℕ) : Type 0 where
  pub first_fits : first ≤ 255
  pub second_fits : second ≤ 255
  pub third_fits : third ≤ 255
  pub fourth_fits : fourth ≤ 255

-- a label has no leading `.`, and the fields of each statement are in their ranges
abbrev pub IsItem : Item → Type 0
IsItem (Label name) = is_dotted name ≡ false
IsItem (Page segment place prot) = IsPageItem segment place
IsItem (Word segment offset value) = IsWordItem segment offset value
IsItem Board = ⊤
IsItem (Seg first second third fourth) = IsSegItem first second third fourth
IsItem (Code instr label) = IsInstr instr

-- ---- lines

-- one statement at most, and no label
abbrev pub IsStatement : List Item → Type 0
IsStatement [] = ⊤
IsStatement (Label name ∷ items) = ⊥
IsStatement (statement ∷ []) = ⊤
IsStatement (statement ∷ item ∷ items) = ⊥

-- a line has an optional label and an optional statement
abbrev pub IsLine : List Item → Type 0
IsLine (Label name ∷ items) = IsStatement items
IsLine items = IsStatement items

-- the line is spelled by the tokens of its label and its statement
pub record SpellsLine (line : List ℕ) (items : List Item) : Type 0 where
  pub is_line : IsLine items
  pub in_range : All IsItem items
  pub spelled : SpellsTokens line (flat_map item_tokens items)
