-- What a text says is a unit within its limits.
use Rattle.std.proofs.Common.{◌≡◌, ℕ, ◌+◌, ◌*◌, ◌^◌, ◌<◌, List, [], ◌∷◌, ◌++◌, length, Option, Some, None, refl, sym, arith, subst}
use Rattle.std.specs.Prelude.{IfSome, ℤ, pos, negsuc}
use Rattle.std.specs.List.{AllByRecursion, AllZip, cons_option, filter_map}
use Rattle.std.proofs.lemmas.List.Elements.{All-from_recursion, recursion_from_All}
use Rattle.spur_isa.specs.Ranges.{IsInstr}
use Rattle.spur_object.specs.Limits.{IsBoard, IsPage, IsWord, IsUnit}
use Rattle.spur_object.specs.declared.unit.BoardText.{BoardText}
use Rattle.spur_object.specs.declared.unit.Unit as units
use Rattle.spur_asm.specs.Item.{Item, Page, Word, Seg, Code, IsItem, IsPageItem, IsWordItem, SpellsLine}
use Rattle.spur_asm.specs.Section.{page_text_in, word_text_in, segs_in, code_in, low_word, SetsSegs, SaysBoard}
use Rattle.spur_asm.specs.Says.{sections, Says}
use Rattle.spur_asm.proofs.ItemLines.{joined}

-- ---- what items add is in its ranges

abbrev AreItems : List Item → Type 0
AreItems items = AllByRecursion IsItem items

one_kept : {X : Type 0} (P : X → Type 0) (o : Option X) (xs : List X) → IfSome o P → AllByRecursion P xs → AllByRecursion P (cons_option o xs)
one_kept P None xs here h = h
one_kept P (Some x) xs here h = (here, h)

all_kept : {X : Type 0} (P : X → Type 0) (f : Item → Option X) → ((item : Item) → IsItem item → IfSome (f item) P) → (items : List Item) → AreItems items → AllByRecursion P (filter_map f items)
all_kept P f each [] h = tt
all_kept P f each (item ∷ items) h = one_kept P (f item) (filter_map f items) (each item h.0) (all_kept P f each items h.1)

page_fits : (segment place : ℕ) → IsPageItem segment place → segment * 2 ^ 18 + place < 2 ^ 26
page_fits segment place h = (let a = h.segment_fits in let b = h.place_fits in omega arith)

low_fits : (z : ℤ) → low_word z < 2 ^ 32
low_fits (pos a) = omega arith
low_fits (negsuc a) = omega arith

word_fits : (segment offset : ℕ) (value : ℤ) → IsWordItem segment offset value → IsWord (record { at = segment * 2 ^ 30 + offset; value = low_word value })
word_fits segment offset value h =
    let a = h.segment_fits in
    let b = h.offset_fits in
    let c = h.aligned in
    record { aligned = omega arith; below = omega arith; value = low_fits value }

page_kept : (item : Item) → IsItem item → IfSome (page_text_in item) IsPage
page_kept (Page segment place prot) h = page_fits segment place h
page_kept (item) h = tt

word_kept : (item : Item) → IsItem item → IfSome (word_text_in item) IsWord
word_kept (Word segment offset value) h = word_fits segment offset value h
word_kept (item) h = tt

code_kept : (item : Item) → IsItem item → IfSome (code_in item) IsInstr
code_kept (Code instr label) h = h
code_kept (item) h = tt

-- four segments of 8 bits
record AreFour (segs : List ℕ) : Type 0 where
  four : length segs ≡ 4
  below : AllByRecursion (λ seg. seg < 256) segs

segs_kept : (item : Item) → IsItem item → IfSome (segs_in item) AreFour
segs_kept (Seg first second third fourth) h =
    let a = h.first_fits in
    let b = h.second_fits in
    let c = h.third_fits in
    let d = h.fourth_fits in
    record { four = refl; below = ((omega arith), ((omega arith), ((omega arith), ((omega arith), tt)))) }
segs_kept (item) h = tt

segs_are : (sets : List (List ℕ)) (segs : List ℕ) → AllByRecursion AreFour sets → SetsSegs sets segs → AreFour segs
segs_are [] segs h is = rw is (record { four = refl; below = ((omega arith), ((omega arith), ((omega arith), ((omega arith), tt)))) })
segs_are (set ∷ []) segs h is = rw is h.0
segs_are (set ∷ again ∷ more) segs h is = absurd is

-- ---- the items of each board

some_of : (items others : List Item) → AreItems (items ++ others) → AreItems items × AreItems others
some_of [] others h = (tt, h)
some_of (item ∷ items) others h = (let on = some_of items others h.1 in ((h.0, on.0), on.1))

both_items : (items others : List Item) → AreItems items → AreItems others → AreItems (items ++ others)
both_items [] others h more = more
both_items (item ∷ items) others h more = (h.0, both_items items others h.1 more)

items_of_lines : (lines : List (List ℕ)) (items : List (List Item)) → AllZip SpellsLine lines items → AreItems (joined items)
items_of_lines [] [] h = tt
items_of_lines [] (one ∷ items) h = absurd h
items_of_lines (line ∷ lines) [] h = absurd h
items_of_lines (line ∷ lines) (one ∷ items) h = both_items one (joined items) (recursion_from_All IsItem one h.0.in_range) (items_of_lines lines items h.1)

items_of_parts : (parts : List (List Item)) → AreItems (sections parts) → AllByRecursion AreItems parts
items_of_parts [] h = tt
items_of_parts (part ∷ parts) h = (let on = some_of part (sections parts) h.1 in (on.0, items_of_parts parts on.1))

board_fits : (part : List Item) (b : BoardText) → AreItems part → SaysBoard part b → IsBoard b
board_fits part b h said =
    let four = segs_are (filter_map segs_in part) b.segs (all_kept AreFour segs_in segs_kept part h) said.segs in
    record {
      four = four.four;
      segs = All-from_recursion (λ seg. seg < 256) b.segs four.below;
      few = said.few;
      code = All-from_recursion IsInstr b.code (subst (AllByRecursion IsInstr) (sym said.code) (all_kept IsInstr code_in code_kept part h));
    }

boards_fit : (parts : List (List Item)) (boards : List BoardText) → AllByRecursion AreItems parts → AllZip SaysBoard parts boards → AllByRecursion IsBoard boards
boards_fit [] [] h said = tt
boards_fit [] (b ∷ boards) h said = absurd said
boards_fit (part ∷ parts) [] h said = absurd said
boards_fit (part ∷ parts) (b ∷ boards) h said = (board_fits part b h.0 said.0, boards_fit parts boards h.1 said.1)

pub said_unit : (text : List ℕ) (unit : units.Unit) → Says text unit → IsUnit unit
said_unit text unit said =
    let items : List Item = joined said.items in
    let all : AreItems items = items_of_lines said.lines said.items said.spelled in
    let split = some_of said.front (sections said.parts) (subst AreItems said.has_sections.joined all) in
    record {
      some_board = said.some_board;
      few_boards = said.few_boards;
      few_pages = said.few_pages;
      few_words = said.few_words;
      boards = All-from_recursion IsBoard unit.boards (boards_fit said.parts unit.boards (items_of_parts said.parts split.1) said.boards);
      pages = All-from_recursion IsPage unit.pages (subst (AllByRecursion IsPage) (sym said.pages) (all_kept IsPage page_text_in page_kept items all));
      words = All-from_recursion IsWord unit.words (subst (AllByRecursion IsWord) (sym said.words) (all_kept IsWord word_text_in word_kept items all));
    }
