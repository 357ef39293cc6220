-- The lists of an object: one thing more, and how many bytes it takes.
use Rattle.std.specs.List.{All}
use Rattle.std.proofs.Common.{◌≡◌, ℕ, ◌+◌, ◌*◌, ◌/◌, ◌%◌, ◌^◌, ◌<◌, ◌≤◌, List, [], ◌∷◌, ◌++◌, length, ap, ◌∙◌, arith, length-append}
use Rattle.spur_isa.specs.declared.instr.Instr.{Instr}
use Rattle.spur_isa.specs.declared.instr.Instr.TheVariants.{Halt}
use Rattle.spur_isa.specs.Ranges.{IsInstr}
use Rattle.spur_isa.specs.Word.{instr_word}
use Rattle.spur_addr.specs.PageEntry.{protection_number}
use Rattle.spur_object.specs.declared.unit.BoardText.{BoardText}
use Rattle.spur_object.specs.declared.unit.PageText.{PageText}
use Rattle.spur_object.specs.declared.unit.WordText.{WordText}
use Rattle.spur_object.specs.Fields.{ObjField, board_fields, bytes_of, instr_fields, page_fields, word_fields}
use Rattle.spur_object.specs.Limits.{IsBoard, IsPage, IsWord}
use Rattle.spur_object.specs.Reading.{Begins, IsCounted, list_fields}
use Rattle.spur_object.proofs.ByteFacts.{length_number}
use Rattle.spur_object.proofs.ShapeFacts.{Fours, board_once, instr_once, length_fours, page_once, word_once}
use Rattle.spur_object.proofs.StopFacts.{IsPart, list_part}
use Rattle.spur_object.proofs.UnitFacts.{blank_board, blank_is_board, blank_is_page, blank_is_word, blank_page, blank_word}

-- the fields of each thing have four bytes

pub instr_fours : (instr : Instr) → Fours (instr_fields instr)
instr_fours instr = (length_number (instr_word instr), tt)

pub fours_append : (fs gs : List ObjField) → Fours fs → Fours gs → Fours (fs ++ gs)
fours_append [] gs fs_are gs_are = gs_are
fours_append (f ∷ fs) gs fs_are gs_are = (fs_are.0, fours_append fs gs fs_are.1 gs_are)

pub code_fours : (code : List Instr) → Fours (list_fields instr_fields code)
code_fours [] = tt
code_fours (instr ∷ code) = fours_append (instr_fields instr) (list_fields instr_fields code) (instr_fours instr) (code_fours code)

pub board_fours : (board : BoardText) → IsBoard board → Fours (board_fields board)
board_fours board is = (is.four, (length_number (length board.code), code_fours board.code))

pub page_fours : (page : PageText) → Fours (page_fields page)
page_fours page = (length_number page.page, (length_number (protection_number page.prot), tt))

pub word_fours : (word : WordText) → Fours (word_fields word)
word_fours word = (length_number (word.at / 2 ^ 30), (length_number (word.at % 2 ^ 30), (length_number word.value, tt)))

-- how many bytes a thing takes at least

spends : {X : Type 0} (IsX : X → Type 0) (fields : X → List ObjField) (bytes rest : List ℕ) (x : X) → Begins IsX fields bytes x rest → Fours (fields x)
    → 4 * length (fields x) + length rest ≡ length bytes
spends IsX fields bytes rest x begins fours =
    let own = length_fours (fields x) fours in
    let all = ap (λ (l : List ℕ). length l) begins.bytes_are ∙ length-append (bytes_of (fields x)) rest in
    omega arith

pub instr_spends : (bytes rest : List ℕ) (x : Instr) → Begins IsInstr instr_fields bytes x rest → 4 + length rest ≤ length bytes
instr_spends bytes rest x begins = let all = spends IsInstr instr_fields bytes rest x begins (instr_fours x) in omega arith

pub board_spends : (bytes rest : List ℕ) (x : BoardText) → Begins IsBoard board_fields bytes x rest → 8 + length rest ≤ length bytes
board_spends bytes rest x begins = let all = spends IsBoard board_fields bytes rest x begins (board_fours x begins.limits) in omega arith

pub page_spends : (bytes rest : List ℕ) (x : PageText) → Begins IsPage page_fields bytes x rest → 8 + length rest ≤ length bytes
page_spends bytes rest x begins = let all = spends IsPage page_fields bytes rest x begins (page_fours x) in omega arith

pub word_spends : (bytes rest : List ℕ) (x : WordText) → Begins IsWord word_fields bytes x rest → 12 + length rest ≤ length bytes
word_spends bytes rest x begins = let all = spends IsWord word_fields bytes rest x begins (word_fours x) in omega arith

-- each is a part of its list

pub code_part : (count : ℕ) (read : List Instr) → All IsInstr read → length read < count
    → IsPart IsInstr instr_fields (IsCounted IsInstr count) (list_fields instr_fields) (list_fields instr_fields read)
code_part count read each few = list_part IsInstr instr_fields instr_once Halt tt count read each few

pub boards_part : (count : ℕ) (read : List BoardText) → All IsBoard read → length read < count
    → IsPart IsBoard board_fields (IsCounted IsBoard count) (list_fields board_fields) (list_fields board_fields read)
boards_part count read each few = list_part IsBoard board_fields board_once blank_board blank_is_board count read each few

pub pages_part : (count : ℕ) (read : List PageText) → All IsPage read → length read < count
    → IsPart IsPage page_fields (IsCounted IsPage count) (list_fields page_fields) (list_fields page_fields read)
pages_part count read each few = list_part IsPage page_fields page_once blank_page blank_is_page count read each few

pub words_part : (count : ℕ) (read : List WordText) → All IsWord read → length read < count
    → IsPart IsWord word_fields (IsCounted IsWord count) (list_fields word_fields) (list_fields word_fields read)
words_part count read each few = list_part IsWord word_fields word_once blank_word blank_is_word count read each few
