-- The shape of each statement, and which pieces fit which field.
use Rattle.std.specs.Prelude.{◌≡◌, ℕ, ◌<◌, ◌%◌, ◌≤◌, Bool, true, false, List, [], ◌∷◌, length, ℤ, pos, negsuc, ◌≤ℤ◌}
use Rattle.std.specs.Char.{is_ascii_graphic}
use Rattle.std.specs.List.{Contains}
use Rattle.spur_addr.specs.declared.page_entry.Protection.{Protection}
use Rattle.spur_asm.specs.Bytes.{is_mark, is_name_start, is_number_start}
use Rattle.spur_asm.specs.Token.{Token, Name, Number}
use Rattle.spur_asm.specs.Item.{register_text, protection_text}
use Rattle.spur_asm.specs.Spelling.{IsNumber, IsText}
use Rattle.spur_asm.specs.declared.fault.AsmKind.{AsmKind}
use Rattle.spur_asm.specs.declared.fault.AsmKind.TheVariants.{BadByte, BadToken, BadNumber, UnknownName, NoLabel}
use Rattle.spur_asm.specs.declared.statement.Operation.{Operation}
use Rattle.spur_asm.specs.declared.statement.Operation.TheVariants.{Halt, Nop, Li, Lih, AddI, Add, Sub, And, Or, Xor, Shl, Shr, Slt, SltU, Ld, St, Tas, Beq, Bne, Blt, Bge, Jmp, Call, Jr, Show}
use Rattle.spur_asm.specs.declared.statement.Sort.{Sort}
use Rattle.spur_asm.specs.declared.statement.Sort.TheVariants.{Page, Word, Board, Seg, Code}

-- ---- shapes

-- what a statement may want: a mark, a register, a protection, a label of the board, a number of a range, a multiple of 4 of one
pub data Field : Type 0 where
  ThisMark : (mark : ℕ) → Field
  Register : Field
  Protected : Field
  Target : Field
  Ranged : (low high : ℤ) → Field
  Aligned : (high : ℕ) → Field

-- the marks `,` `(` `)`
abbrev pub comma_mark : Field
comma_mark = ThisMark 44

abbrev pub opening_mark : Field
opening_mark = ThisMark 40

abbrev pub closing_mark : Field
closing_mark = ThisMark 41

abbrev pub up_to : ℕ → Field
up_to high = Ranged (pos 0) (pos high)

-- a number from -32768 to 32767
abbrev pub signed16 : Field
signed16 = Ranged (negsuc 32767) (pos 32767)

-- `a, b, c`
abbrev pub three_fields : List Field
three_fields = Register ∷ comma_mark ∷ Register ∷ comma_mark ∷ Register ∷ []

-- `a, i(b)`
abbrev pub access_fields : List Field
access_fields = Register ∷ comma_mark ∷ signed16 ∷ opening_mark ∷ Register ∷ closing_mark ∷ []

-- `a, b, label`
abbrev pub branch_fields : List Field
branch_fields = Register ∷ comma_mark ∷ Register ∷ comma_mark ∷ Target ∷ []

-- the fields behind the name of an instruction
abbrev pub operands_of : Operation → List Field
operands_of Halt = []
operands_of Nop = []
operands_of Li = Register ∷ comma_mark ∷ signed16 ∷ []
operands_of Lih = Register ∷ comma_mark ∷ up_to 65535 ∷ []
operands_of AddI = Register ∷ comma_mark ∷ Register ∷ comma_mark ∷ signed16 ∷ []
operands_of Add = three_fields
operands_of Sub = three_fields
operands_of And = three_fields
operands_of Or = three_fields
operands_of Xor = three_fields
operands_of Shl = three_fields
operands_of Shr = three_fields
operands_of Slt = three_fields
operands_of SltU = three_fields
operands_of Ld = access_fields
operands_of St = access_fields
operands_of Tas = access_fields
operands_of Beq = branch_fields
operands_of Bne = branch_fields
operands_of Blt = branch_fields
operands_of Bge = branch_fields
operands_of Jmp = Target ∷ []
operands_of Call = Register ∷ comma_mark ∷ Target ∷ []
operands_of Jr = Register ∷ []
operands_of Show = Register ∷ []

-- the fields behind the name of a statement
abbrev pub shape_of : Sort → List Field
shape_of Page = up_to 255 ∷ up_to 262143 ∷ Protected ∷ []
shape_of Word = up_to 255 ∷ Aligned 1073741820 ∷ Ranged (negsuc 2147483647) (pos 4294967295) ∷ []
shape_of Board = []
shape_of Seg = up_to 255 ∷ up_to 255 ∷ up_to 255 ∷ up_to 255 ∷ []
shape_of (Code operation) = operands_of operation

-- ---- what fits a field

-- a number that the text writes, from low to high
pub record WritesRanged (low high : ℤ) (text : List ℕ) : Type 0 where
  pub value : ℤ
  pub writes : IsNumber text value
  pub least : low ≤ℤ value
  pub most : value ≤ℤ high

pub record WritesAligned (high : ℕ) (text : List ℕ) : Type 0 where
  pub value : ℕ
  pub writes : IsNumber text (pos value)
  pub most : value ≤ high
  pub aligned : value % 4 ≡ 0

-- the text is what the field wants, where the board has labels of these names
abbrev pub Fits : List (List ℕ) → Field → List ℕ → Type 0
Fits labels (ThisMark mark) text = text ≡ mark ∷ []
Fits labels Register text = (a : ℕ) × (a < 16) × (text ≡ register_text a)
Fits labels Protected text = (prot : Protection) × (text ≡ protection_text prot)
Fits labels Target text = IsText (Name text) text × Contains labels text
Fits labels (Ranged low high) text = WritesRanged low high text
Fits labels (Aligned high) text = WritesAligned high text

-- ---- which fault a piece has that does not fit

-- the first byte of a text passes this test
abbrev pub BeginsBy : (ℕ → Bool) → List ℕ → Type 0
BeginsBy p [] = ⊥
BeginsBy p (b ∷ bytes) = p b ≡ true

-- a byte that begins no name and no number and is no mark
pub record IsStray (text : List ℕ) (printed : Bool) : Type 0 where
  pub byte : ℕ
  pub is : text ≡ byte ∷ []
  pub no_name : is_name_start byte ≡ false
  pub no_number : is_number_start byte ≡ false
  pub no_mark : is_mark byte ≡ false
  pub printed_is : is_ascii_graphic byte ≡ printed

-- the fault that a piece has by itself: a name of more than 64 bytes, a number that is not well formed, a byte that is none of these and no
-- mark, one of 0x21 to 0x7e or another
pub data OwnFault (text : List ℕ) (kind : AsmKind) : Type 0 where
  Long : BeginsBy is_name_start text → 64 < length text → kind ≡ BadToken → OwnFault text kind
  Malformed : BeginsBy is_number_start text → ((z : ℤ) → IsNumber text z → ⊥) → kind ≡ BadNumber → OwnFault text kind
  Stray : IsStray text true → kind ≡ BadToken → OwnFault text kind
  NoByte : IsStray text false → kind ≡ BadByte → OwnFault text kind

-- the fault of a token that does not fit a field: a name where one of few is wanted is not known, a number where a number is wanted is a
-- bad one, and any other is a bad token
abbrev pub kind_against : Field → Token → AsmKind
kind_against Register (Name name) = UnknownName
kind_against Protected (Name name) = UnknownName
kind_against Target (Name name) = NoLabel
kind_against (Ranged low high) (Number z) = BadNumber
kind_against (Aligned high) (Number z) = BadNumber
kind_against field token = BadToken
