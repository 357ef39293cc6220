-- The unit that is read of a text is the one that the text says.
use Rattle.std.proofs.Common.{◌≡◌, ◌≢◌, ℕ, ◌+◌, ◌≤◌, Bool, true, false, if◌then◌else◌, List, [], ◌∷◌, ◌++◌, length, Option, Some, Result, Ok, Err, refl, sym, ap, ◌∙◌, arith, slice_index_or, subst}
use Rattle.std.specs.List.{All, AllByRecursion, AllZip, filter_map}
use Rattle.std.specs.Option.{is_some, option_to_list}
use Rattle.std.proofs.lemmas.List.{length-map}
use Rattle.std.proofs.lemmas.List.Elements.{All-from_recursion, recursion_from_All}
use Rattle.spur_object.specs.declared.unit.BoardText.{BoardText}
use Rattle.spur_object.specs.declared.unit.PageText.{PageText}
use Rattle.spur_object.specs.declared.unit.WordText.{WordText}
use Rattle.spur_object.specs.declared.unit.Unit as units
use Rattle.spur_asm.specs.Item.{Item, Board, SpellsLine}
use Rattle.spur_asm.specs.Section.{page_text_in, word_text_in}
use Rattle.spur_asm.specs.Says.{IsAnywhere, sections, Says}
use Rattle.spur_asm.specs.Context.{Placed, first_context, labels_from}
use Rattle.spur_asm.specs.Draft.{empty_draft, fresh_board, all_boards, unit_in}
use Rattle.spur_asm.specs.Text.{lines_of, draft_at_end, draft_from, draft_in, unit_from, unit_of}
use Rattle.spur_asm.specs.Laws.{ReadsWhatIsSaid, SaysOnce, SaysAUnit}
use Rattle.spur_asm.specs.declared.draft.Draft.{Draft}
use Rattle.spur_asm.specs.declared.fault.AsmKind.TheVariants.{NoBoard}
use Rattle.spur_asm.specs.declared.fault.Misfit.{Misfit}
use Rattle.spur_asm.specs.declared.statement.Context.{Context}
use Rattle.spur_asm.specs.Fields.{misfit}
use Rattle.spur_asm.proofs.Levels.{AllStand, behind_items, LineLaw, NextLaw, LabelLaw, TextsFromLines}
use Rattle.spur_asm.proofs.ItemRuns.{pages_behind, words_behind, IsNoBoard, HasNoBoard, boards_behind, behind_append}
use Rattle.spur_asm.proofs.MayStand.{IsFew}
use Rattle.spur_asm.proofs.ItemDrafts.{drafted, drafted_append, pages_drafted, words_drafted, front_drafted, board_with, boards_of, boards_drafted, has_begun}
use Rattle.spur_asm.proofs.ItemLabels.{placed_items}
use Rattle.spur_asm.proofs.ItemLines.{joined, labels_are, lines_drafted, AreSpelled, lines_spelled}
use Rattle.spur_asm.proofs.ItemSections.{split_of, all_sound, all_said, anywhere_whole, boards_counted, stand_if_sound, AreSound, sound_if_stand}
use Rattle.spur_asm.proofs.SaidUnits.{said_unit}
use Rattle.spur_asm.proofs.TextLines.{are_lines_of, has_lines}

-- ---- the unit of items

-- the boards that items make
made : (front : List Item) (parts : List (List Item)) → AllByRecursion IsAnywhere front → AllByRecursion HasNoBoard parts
    → all_boards (drafted empty_draft (front ++ sections parts)) ≡ boards_of parts
made front parts anywhere whole =
    let d : Draft = drafted empty_draft front in
    let same = front_drafted empty_draft front anywhere in
    let none : all_boards d ≡ [] = (let boards = same.boards in let begun = same.begun in λ k. boards k ++ option_to_list (begun k)) in
    ap all_boards (drafted_append empty_draft front (sections parts))
    ∙ boards_drafted d parts whole
    ∙ ap (λ (bs : List BoardText). bs ++ boards_of parts) none

unit_made : (items front : List Item) (parts : List (List Item)) → items ≡ front ++ sections parts → AllByRecursion IsAnywhere front → AllByRecursion HasNoBoard parts
    → unit_in (drafted empty_draft items) ≡ record { boards = boards_of parts; pages = filter_map page_text_in items; words = filter_map word_text_in items }
unit_made items front parts split anywhere whole =
    let boards : all_boards (drafted empty_draft items) ≡ boards_of parts = ap (λ (is : List Item). all_boards (drafted empty_draft is)) split ∙ made front parts anywhere whole in
    let pages = pages_drafted empty_draft items in
    let words = words_drafted empty_draft items in
    λ k. record { boards = boards k; pages = pages k; words = words k }

some_begun : (items front : List Item) (parts : List (List Item)) → items ≡ front ++ sections parts → 1 ≤ length parts → is_some (drafted empty_draft items).begun ≡ true
some_begun items front parts split some =
    ap (λ (is : List Item). is_some (drafted empty_draft is).begun) split
    ∙ ap (λ (d : Draft). is_some d.begun) (drafted_append empty_draft front (sections parts))
    ∙ has_begun (drafted empty_draft front) parts some

begun_some : (front : List Item) (parts : List (List Item)) → AllByRecursion IsAnywhere front → is_some (drafted empty_draft (front ++ sections parts)).begun ≡ true → 1 ≤ length parts
begun_some front [] anywhere e =
    let none : is_some (drafted empty_draft (front ++ [])).begun ≡ false =
    ap (λ (d : Draft). is_some d.begun) (drafted_append empty_draft front []) ∙ ap (λ (b : Option BoardText). is_some b) (front_drafted empty_draft front anywhere).begun in
    absurd cc
begun_some front (part ∷ parts) anywhere e = omega arith

-- ---- what is said is read

boards_all : (items front : List Item) (parts : List (List Item)) → items ≡ front ++ sections parts → AllByRecursion IsAnywhere front → AllByRecursion HasNoBoard parts
    → (behind_items first_context items).boards ≡ length parts
boards_all items front parts split anywhere whole =
    let c : Context = behind_items first_context front in
    let none : c.boards ≡ 0 = boards_behind first_context front (anywhere_whole front anywhere) in
    let on : (behind_items first_context items).boards ≡ c.boards + length parts =
    ap (λ (is : List Item). (behind_items first_context is).boards) split
    ∙ ap (λ (x : Context). x.boards) (behind_append first_context front (sections parts))
    ∙ boards_counted c parts whole in
    omega arith

whole_parts : (parts : List (List Item)) → All (λ part. All (λ item. item ≢ Board) part) parts → AllByRecursion HasNoBoard parts
whole_parts parts h = recursion_from_All HasNoBoard parts (λ k d lt. recursion_from_All IsNoBoard (slice_index_or parts k d) (h k d lt))

parts_whole : (parts : List (List Item)) → AllByRecursion HasNoBoard parts → All (λ part. All (λ item. item ≢ Board) part) parts
parts_whole parts h = λ k d lt. All-from_recursion IsNoBoard (slice_index_or parts k d) (All-from_recursion HasNoBoard parts h k d lt)

unit_is : (unit : units.Unit) (parts : List (List Item)) (items : List Item) → unit.boards ≡ boards_of parts → unit.pages ≡ filter_map page_text_in items → unit.words ≡ filter_map word_text_in items
    → record { boards = boards_of parts; pages = filter_map page_text_in items; words = filter_map word_text_in items } ≡ unit
unit_is unit parts items boards pages words =
    let same : unit ≡ record { boards = boards_of parts; pages = filter_map page_text_in items; words = filter_map word_text_in items } = λ k. record { boards = boards k; pages = pages k; words = words k } in
    sym same

few_said : (items front : List Item) (parts : List (List Item)) → items ≡ front ++ sections parts → AllByRecursion IsAnywhere front → AllByRecursion HasNoBoard parts
    → length parts ≤ 12 → length (filter_map page_text_in items) ≤ 2048 → length (filter_map word_text_in items) ≤ 65536 → IsFew (behind_items first_context items)
few_said items front parts split anywhere whole few_boards few_pages few_words =
    let pages = pages_behind first_context items in
    let words = words_behind first_context items in
    let boards = boards_all items front parts split anywhere whole in
    record { pages = omega arith; words = omega arith; boards = omega arith }

at_end_read : (d : Draft) → is_some d.begun ≡ true → draft_at_end d ≡ Ok d
at_end_read d e = rw e refl

back_if : (d e : Draft) (b : Bool) → is_some d.begun ≡ b → (if b then Ok d else Err (misfit NoBoard 0)) ≡ Ok e → (is_some d.begun ≡ true) × (d ≡ e)
back_if d e true is h = (is, cc)
back_if d e false is h = absurd cc

at_end_back : (d e : Draft) → draft_at_end d ≡ Ok e → (is_some d.begun ≡ true) × (d ≡ e)
at_end_back d e h = back_if d e (is_some d.begun) refl h

unit_read : (text : List ℕ) (d : Draft) → draft_in (lines_of text) ≡ Ok d → unit_of text ≡ Some (unit_in d)
unfolding unit_of
unit_read text d read = ap unit_from read

module _ (law : LineLaw) (next : NextLaw) (label : LabelLaw) where
  said_is_read : (text : List ℕ) (unit : units.Unit) → Says text unit → unit_of text ≡ Some unit
  said_is_read text unit said =
      let items : List Item = joined said.items in
      let split : items ≡ said.front ++ sections said.parts = said.has_sections.joined in
      let anywhere = recursion_from_All IsAnywhere said.front said.has_sections.anywhere in
      let whole = whole_parts said.parts said.has_sections.whole in
      let boards = all_sound said.parts unit.boards said.boards in
      let counted : length unit.boards ≡ length said.parts = ap (λ (bs : List BoardText). length bs) boards.1 ∙ length-map said.parts (board_with fresh_board) in
      let pages = ap (λ (ps : List PageText). length ps) said.pages in
      let words = ap (λ (ws : List WordText). length ws) said.words in
      let few_pages = said.few_pages in
      let few_words = said.few_words in
      let few_boards = said.few_boards in
      let some_board = said.some_board in
      let few = few_said items said.front said.parts split anywhere whole (omega arith) (omega arith) (omega arith) in
      let stand : AllStand (placed_items first_context items) first_context items =
      subst (λ (is : List Item). AllStand (placed_items first_context is) first_context is) (sym split)
      (stand_if_sound said.front said.parts anywhere whole boards.0 (subst (λ (is : List Item). IsFew (behind_items first_context is)) split few)) in
      let d : Draft = drafted empty_draft items in
      let read : draft_in (lines_of text) ≡ Ok d =
      ap draft_in (are_lines_of text said.lines said.has_lines)
      ∙ ap (λ (all : List Placed). draft_from all first_context empty_draft said.lines) (labels_are law next label first_context said.lines said.items said.spelled)
      ∙ lines_drafted law next label (placed_items first_context items) first_context empty_draft said.lines said.items said.spelled stand
      ∙ at_end_read d (some_begun items said.front said.parts split (omega arith)) in
      let same : unit_in d ≡ unit = unit_made items said.front said.parts split anywhere whole ∙ unit_is unit said.parts items boards.1 said.pages said.words in
      unit_read text d read ∙ ap (λ (u : units.Unit). Some u) same

  -- ---- what is read is said

  says_from : (text : List ℕ) (items : List (List Item)) (front : List Item) (parts : List (List Item)) → AllZip SpellsLine (lines_of text) items → joined items ≡ front ++ sections parts
      → AllByRecursion HasNoBoard parts → AreSound front parts → 1 ≤ length parts
      → Says text (record { boards = boards_of parts; pages = filter_map page_text_in (joined items); words = filter_map word_text_in (joined items) })
  says_from text items front parts spelled split whole sound some =
      let few : IsFew (behind_items first_context (joined items)) = subst (λ (is : List Item). IsFew (behind_items first_context is)) (sym split) sound.few in
      let pages = pages_behind first_context (joined items) in
      let words = words_behind first_context (joined items) in
      let boards = boards_all (joined items) front parts split sound.anywhere whole in
      let counted : length (boards_of parts) ≡ length parts = length-map parts (board_with fresh_board) in
      record {
        lines = lines_of text;
        items = items;
        front = front;
        parts = parts;
        has_lines = has_lines text;
        spelled = spelled;
        has_sections = record { joined = split; anywhere = All-from_recursion IsAnywhere front sound.anywhere; whole = parts_whole parts whole };
        boards = all_said parts sound.sound;
        pages = refl;
        words = refl;
        some_board = omega arith;
        few_boards = (let le = few.boards in omega arith);
        few_pages = (let le = few.pages in omega arith);
        few_words = (let le = few.words in omega arith);
      }

  says_spelled : (text : List ℕ) (d : Draft) → AreSpelled law next label (labels_from first_context (lines_of text)) first_context empty_draft (lines_of text) d → Says text (unit_in d)
  says_spelled text d h =
      let items : List Item = joined h.items in
      let s = split_of items in
      let split = s.joined in
      let stand = subst (λ (is : List Item). AllStand (placed_items first_context is) first_context is) split
      (subst (λ (all : List Placed). AllStand all first_context items) (labels_are law next label first_context (lines_of text) h.items h.spelled) h.stand) in
      let sound = sound_if_stand s.front s.parts s.front_whole s.whole stand in
      let end = at_end_back (drafted empty_draft items) d h.draft in
      let some = begun_some s.front s.parts sound.anywhere (sym (ap (λ (is : List Item). is_some (drafted empty_draft is).begun) split) ∙ end.0) in
      let same = ap unit_in (sym end.1) ∙ unit_made items s.front s.parts split sound.anywhere s.whole in
      subst (Says text) (sym same) (says_from text h.items s.front s.parts h.spelled split s.whole sound some)

  read_as : (text : List ℕ) (unit : units.Unit) (d : Draft) → draft_in (lines_of text) ≡ Ok d → Some (unit_in d) ≡ Some unit → Says text unit
  read_as text unit d read e =
      let same : unit_in d ≡ unit = cc in
      subst (Says text) same (says_spelled text d (lines_spelled law next label (labels_from first_context (lines_of text)) first_context empty_draft (lines_of text) d read))

  read_from : (text : List ℕ) (unit : units.Unit) (r : Result Draft Misfit) → draft_in (lines_of text) ≡ r → unit_from r ≡ Some unit → Says text unit
  read_from text unit (Err m) read e = absurd cc
  read_from text unit (Ok d) read e = read_as text unit d read e

  read_is_said : (text : List ℕ) (unit : units.Unit) → unit_of text ≡ Some unit → Says text unit
  unfolding unit_of
  read_is_said text unit e = read_from text unit (draft_in (lines_of text)) refl e

-- ---- the laws

-- from the laws of lines
pub texts_from_lines : TextsFromLines
texts_from_lines law next label = λ text unit. (said_is_read law next label text unit, read_is_said law next label text unit)

pub says_once_from : ReadsWhatIsSaid → SaysOnce
says_once_from reads text one other said again =
    let first = (reads text one).0 said in
    let second = (reads text other).0 again in
    cc

pub says_a_unit : SaysAUnit
says_a_unit = said_unit
