-- The lines that refuse an input, each ended by a line feed. A number is in decimal, with no leading zeros, unless it
-- is said otherwise. Want of memory is no refusal and has no line.
use Rattle.std.specs.Prelude.{ℕ, List, [], ◌++◌, codes}
use Rattle.std.specs.Fmt.{decimal}
use Rattle.spur_text.specs.Digits.{address_digits}
use Rattle.spur_text.specs.Line.{feed}
use Rattle.spur_object.specs.declared.fault.ObjKind.{ObjKind}
use Rattle.spur_object.specs.declared.fault.ObjKind.TheVariants.{Magic, Version, Short, Trailing, BadWord, Field}
use Rattle.spur_trace.specs.declared.fault.TraceKind.{TraceKind}
use Rattle.spur_trace.specs.declared.fault.TraceKind.TheVariants.{BadHeader, BadLine, Boards}
use Rattle.spur_asm.specs.declared.fault.AsmKind.{AsmKind}
use Rattle.spur_asm.specs.declared.fault.AsmKind.TheVariants.{BadByte, BadToken, BadNumber, UnknownName, Twice, NoLabel, Limit, NoBoard}
use Rattle.spur_loader.specs.declared.fault.LoadFault.{LoadFault}
use Rattle.spur_loader.specs.declared.fault.LoadFault.TheVariants.{Segment255, PageTwice, WordOutside, NoRoom, NoMemory}
use Rattle.spur_input.specs.declared.refusal.Refusal.{Refusal}
use Rattle.spur_input.specs.declared.refusal.Refusal.TheVariants.{TooLong, Text, Object, Trace, Load}

-- the words for a kind of fault of a text
abbrev pub text_words : AsmKind → List ℕ
text_words BadByte = codes "bad byte"
text_words BadToken = codes "bad token"
text_words BadNumber = codes "bad number"
text_words UnknownName = codes "unknown name"
text_words Twice = codes "name twice"
text_words NoLabel = codes "no label"
text_words Limit = codes "limit"
text_words NoBoard = codes "no board"

-- the words for a kind of fault of an object
abbrev pub object_words : ObjKind → List ℕ
object_words Magic = codes "magic"
object_words Version = codes "version"
object_words Short = codes "short"
object_words Trailing = codes "trailing"
object_words BadWord = codes "bad instruction"
object_words Field = codes "field"

-- the words for a kind of fault of a trace
abbrev pub trace_words : TraceKind → List ℕ
trace_words BadHeader = codes "bad header"
trace_words BadLine = codes "bad line"
trace_words Boards = codes "boards"

-- a number behind bytes
unfoldable pub number_text : List ℕ → ℕ → List ℕ
number_text before number = before ++ decimal number

-- a line with one number in it
abbrev pub numbered_line : List ℕ → ℕ → List ℕ → List ℕ
numbered_line before number behind = number_text before number ++ behind ++ feed

-- a line with a place that one number tells, and what is wrong there
unfoldable pub placed_line : List ℕ → ℕ → List ℕ → List ℕ
placed_line before number what = number_text before number ++ codes ": " ++ what ++ feed

-- the place of a fault in a text: its line and its column, which are counted from 1
unfoldable pub place_text : ℕ → ℕ → List ℕ
place_text line column =
    number_text (codes "refused: line ") line ++ number_text (codes " column ") column ++ codes ": "

-- the refusal of a text for its first fault
abbrev pub text_line : AsmKind → ℕ → ℕ → List ℕ
text_line kind line column = place_text line column ++ text_words kind ++ feed

-- the refusal of an object, for a fault in the field that begins at this byte, counted from 0
abbrev pub object_line : ObjKind → ℕ → List ℕ
object_line kind byte = placed_line (codes "refused: byte ") byte (object_words kind)

-- the refusal of a trace, for a fault of this line, counted from its header's as 1
abbrev pub trace_line : TraceKind → ℕ → List ℕ
trace_line kind line = placed_line (codes "refused: trace line ") line (trace_words kind)

-- why a unit can't be loaded: the address of the page that is declared again, or of the word whose page is not
-- declared, in 10 hexadecimal digits, or how many frames are wanted
abbrev pub load_line : LoadFault → List ℕ
load_line Segment255 = codes "refused: load: segment 255" ++ feed
load_line (PageTwice at) = codes "refused: load: page twice " ++ address_digits at ++ feed
load_line (WordOutside at) = codes "refused: load: word outside " ++ address_digits at ++ feed
load_line (NoRoom frames) = number_text (codes "refused: load: no room ") frames ++ feed
load_line NoMemory = []

-- the refusal of an input
abbrev pub refusal_line : Refusal → List ℕ
refusal_line (TooLong most) = numbered_line (codes "refused: more than ") most (codes " bytes")
refusal_line (Text kind line column) = text_line kind line column
refusal_line (Object kind byte) = object_line kind byte
refusal_line (Trace kind line) = trace_line kind line
refusal_line (Load fault) = load_line fault
