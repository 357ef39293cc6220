-- The bytes of a unit, by its fields of four bytes each. All numbers stand with their highest byte first.
use Rattle.std.specs.Prelude.{ℕ, ◌+◌, ◌*◌, ◌/◌, ◌%◌, ◌^◌, List, [], ◌∷◌, ◌++◌, length}
use Rattle.std.specs.List.{flat_map}
use Rattle.byteorder.specs.Endian.{big_bytes}
use Rattle.spur_addr.specs.PageEntry.{protection_number}
use Rattle.spur_isa.specs.declared.instr.Instr.{Instr}
use Rattle.spur_isa.specs.Word.{instr_word}
use Rattle.spur_object.specs.declared.counts.Counts.{Counts}
use Rattle.spur_object.specs.declared.fault.ObjKind.{ObjKind}
use Rattle.spur_object.specs.declared.fault.ObjKind.TheVariants.{Magic, Version, BadWord, Field}
use Rattle.spur_object.specs.declared.unit.BoardText.{BoardText}
use Rattle.spur_object.specs.declared.unit.PageText.{PageText}
use Rattle.spur_object.specs.declared.unit.WordText.{WordText}
use Rattle.spur_object.specs.declared.unit.Unit as units

-- a field: its four bytes, and what is wrong where other bytes stand in their place
pub record ObjField : Type 0 where
  pub kind : ObjKind
  pub bytes : List ℕ

-- the four bytes of a number, the highest first
unfoldable pub number_bytes : ℕ → List ℕ
number_bytes n = big_bytes 4 n

abbrev pub number_field : ObjKind → ℕ → ObjField
number_field kind n = record { kind = kind; bytes = number_bytes n }

-- the bytes of fields, one after the other
abbrev pub bytes_of : List ObjField → List ℕ
bytes_of fields = flat_map (λ field. field.bytes) fields

-- the number with which every object begins: 93 53 50 52 in hexadecimal, where no text has the first byte
abbrev pub magic : ℕ
magic = 147 * 2 ^ 24 + 83 * 2 ^ 16 + 80 * 2 ^ 8 + 82

-- the version of these bytes
abbrev pub version : ℕ
version = 1

-- how many boards, pages and words a unit has
abbrev pub counts_of : units.Unit → Counts
counts_of unit = record { boards = length unit.boards; pages = length unit.pages; words = length unit.words }

-- what stands before the boards
abbrev pub head_fields : Counts → List ObjField
head_fields counts =
    number_field Magic magic ∷ number_field Version version
    ∷ number_field Field counts.boards ∷ number_field Field counts.pages ∷ number_field Field counts.words ∷ []

-- an instruction is its word
abbrev pub instr_fields : Instr → List ObjField
instr_fields instr = number_field BadWord (instr_word instr) ∷ []

-- a board: its four segment registers, a byte each, then how many instructions it has, then these
abbrev pub board_fields : BoardText → List ObjField
board_fields board =
    record { kind = Field; bytes = board.segs } ∷ number_field Field (length board.code)
    ∷ flat_map instr_fields board.code

-- a page: its number, then 0, 1 or 2 for its protection
abbrev pub page_fields : PageText → List ObjField
page_fields page = number_field Field page.page ∷ number_field Field (protection_number page.prot) ∷ []

-- a word: its segment, the byte in the segment, then its value
abbrev pub word_fields : WordText → List ObjField
word_fields word =
    number_field Field (word.at / 2 ^ 30) ∷ number_field Field (word.at % 2 ^ 30)
    ∷ number_field Field word.value ∷ []

-- a unit: the head, then its boards, pages and words, each in their order
abbrev pub unit_fields : units.Unit → List ObjField
unit_fields unit =
    head_fields (counts_of unit)
    ++ (flat_map board_fields unit.boards ++ (flat_map page_fields unit.pages ++ flat_map word_fields unit.words))

-- the object of a unit
abbrev pub object_bytes : units.Unit → List ℕ
object_bytes unit = bytes_of (unit_fields unit)
