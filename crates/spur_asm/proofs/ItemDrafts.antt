-- What items add to a draft, by their sections.
use Rattle.std.proofs.Common.{◌≡◌, ℕ, ◌+◌, ◌*◌, ◌^◌, ◌≤◌, true, List, [], ◌∷◌, ◌++◌, length, map, Option, Some, None, refl, sym, ap, ◌∙◌, arith}
use Rattle.std.specs.List.{AllByRecursion, filter_map, fold}
use Rattle.std.specs.Option.{is_some, option_map, option_to_list}
use Rattle.std.proofs.lemmas.List.{append_assoc, append-nil}
use Rattle.std.proofs.lemmas.List.Sums.{fold-append}
use Rattle.spur_object.specs.declared.unit.BoardText.{BoardText}
use Rattle.spur_asm.specs.Item.{Item, Label, Page, Word, Board, Seg, Code}
use Rattle.spur_asm.specs.Section.{page_text_in, word_text_in, segs_in, code_in, low_word}
use Rattle.spur_asm.specs.Says.{IsAnywhere, sections}
use Rattle.spur_asm.specs.Draft.{fresh_board, all_boards, with_line_statement}
use Rattle.spur_asm.specs.declared.draft.Draft.{Draft}
use Rattle.spur_asm.proofs.Levels.{statement_of}
use Rattle.spur_asm.proofs.ItemRuns.{HasNoBoard}

abbrev pub with_item : Draft → Item → Draft
with_item d item = with_line_statement d (statement_of item)

abbrev pub drafted : Draft → List Item → Draft
drafted d items = fold with_item d items

pub drafted_append : (d : Draft) (items others : List Item) → drafted d (items ++ others) ≡ drafted (drafted d items) others
drafted_append d items others = fold-append with_item d items others

-- ---- pages and words

on : {A : Type 0} (xs : List A) (x : A) (ys : List A) → (xs ++ (x ∷ [])) ++ ys ≡ xs ++ (x ∷ ys)
on xs x ys = append_assoc xs (x ∷ []) ys

pub pages_drafted : (d : Draft) (items : List Item) → (drafted d items).pages ≡ d.pages ++ filter_map page_text_in items
pages_drafted d [] = sym (append-nil d.pages)
pages_drafted d (Page segment place prot ∷ items) =
    pages_drafted (with_item d (Page segment place prot)) items ∙ on d.pages (record { page = segment * 2 ^ 18 + place; prot = prot }) (filter_map page_text_in items)
pages_drafted d (item ∷ items) = pages_drafted (with_item d item) items

pub words_drafted : (d : Draft) (items : List Item) → (drafted d items).words ≡ d.words ++ filter_map word_text_in items
words_drafted d [] = sym (append-nil d.words)
words_drafted d (Word segment offset value ∷ items) =
    words_drafted (with_item d (Word segment offset value)) items ∙ on d.words (record { at = segment * 2 ^ 30 + offset; value = low_word value }) (filter_map word_text_in items)
words_drafted d (item ∷ items) = words_drafted (with_item d item) items

-- ---- the items before all boards

pub record IsSameDraft (d e : Draft) : Type 0 where
  pub boards : e.boards ≡ d.boards
  pub begun : e.begun ≡ d.begun

pub front_drafted : (d : Draft) (items : List Item) → AllByRecursion IsAnywhere items → IsSameDraft d (drafted d items)
front_drafted d [] h = record { boards = refl; begun = refl }
front_drafted d (Page segment place prot ∷ items) h =
    let same = front_drafted (with_item d (Page segment place prot)) items h.1 in
    record { boards = same.boards; begun = same.begun }
front_drafted d (Word segment offset value ∷ items) h =
    let same = front_drafted (with_item d (Word segment offset value)) items h.1 in
    record { boards = same.boards; begun = same.begun }
front_drafted d (item ∷ items) h = absurd h.0

-- ---- one board

-- the segments that are set last
abbrev pub last_segs : List ℕ → List (List ℕ) → List ℕ
last_segs segs [] = segs
last_segs segs (set ∷ sets) = last_segs set sets

-- a board with the items of one board behind it
abbrev pub board_with : BoardText → List Item → BoardText
board_with b items = record { segs = last_segs b.segs (filter_map segs_in items); code = b.code ++ filter_map code_in items }

-- a draft whose last board is this one, behind those before
pub record HasBegun (bs : List BoardText) (b : BoardText) (d : Draft) : Type 0 where
  pub boards : d.boards ≡ bs
  pub begun : d.begun ≡ Some b

same_code : (b : BoardText) → b ≡ record { segs = b.segs; code = b.code ++ [] }
same_code b = (let none = append-nil b.code in λ k. record { segs = b.segs; code = sym none k })

pub board_drafted : (bs : List BoardText) (b : BoardText) (d : Draft) (items : List Item) → HasNoBoard items → HasBegun bs b d → HasBegun bs (board_with b items) (drafted d items)
board_drafted bs b d [] whole h = record { boards = h.boards; begun = h.begun ∙ ap (λ (x : BoardText). Some x) (same_code b) }
board_drafted bs b d (Board ∷ items) whole h = absurd (whole.0 refl)
board_drafted bs b d (Label name ∷ items) whole h = board_drafted bs b d items whole.1 h
board_drafted bs b d (Page segment place prot ∷ items) whole h =
    board_drafted bs b (with_item d (Page segment place prot)) items whole.1 (record { boards = h.boards; begun = h.begun })
board_drafted bs b d (Word segment offset value ∷ items) whole h =
    board_drafted bs b (with_item d (Word segment offset value)) items whole.1 (record { boards = h.boards; begun = h.begun })
board_drafted bs b d (Seg first second third fourth ∷ items) whole h =
    let c : BoardText = record b { segs = first ∷ second ∷ third ∷ fourth ∷ [] } in
    board_drafted bs c (with_item d (Seg first second third fourth)) items whole.1
    (record { boards = h.boards; begun = ap (option_map (λ (x : BoardText). record x { segs = first ∷ second ∷ third ∷ fourth ∷ [] })) h.begun })
board_drafted bs b d (Code instr label ∷ items) whole h =
    let c : BoardText = record b { code = b.code ++ (instr ∷ []) } in
    let more = board_drafted bs c (with_item d (Code instr label)) items whole.1
    (record { boards = h.boards; begun = ap (option_map (λ (x : BoardText). record x { code = x.code ++ (instr ∷ []) })) h.begun }) in
    let code = on b.code instr (filter_map code_in items) in
    record {
      boards = more.boards;
      begun = more.begun ∙ (λ k. Some (record { segs = last_segs b.segs (filter_map segs_in items); code = code k }));
    }

-- ---- all boards

abbrev pub boards_of : List (List Item) → List BoardText
boards_of parts = map (board_with fresh_board) parts

begins : (d : Draft) → HasBegun (all_boards d) fresh_board (with_item d Board)
begins d = record { boards = refl; begun = refl }

ends : (bs : List BoardText) (b : BoardText) (d : Draft) → HasBegun bs b d → all_boards d ≡ bs ++ (b ∷ [])
ends bs b d h = (let boards = h.boards in let begun = h.begun in λ k. boards k ++ option_to_list (begun k))

pub boards_drafted : (d : Draft) (parts : List (List Item)) → AllByRecursion HasNoBoard parts → all_boards (drafted d (sections parts)) ≡ all_boards d ++ boards_of parts
boards_drafted d [] whole = sym (append-nil (all_boards d))
boards_drafted d (part ∷ parts) whole =
    let e : Draft = drafted (with_item d Board) part in
    let b : BoardText = board_with fresh_board part in
    ap all_boards (drafted_append (with_item d Board) part (sections parts))
    ∙ boards_drafted e parts whole.1
    ∙ ap (λ (bs : List BoardText). bs ++ boards_of parts) (ends (all_boards d) b e (board_drafted (all_boards d) fresh_board (with_item d Board) part whole.0 (begins d)))
    ∙ on (all_boards d) b (boards_of parts)

-- ---- whether a board was begun

some_kept : (b : Option BoardText) (f : BoardText → BoardText) → is_some b ≡ true → is_some (option_map f b) ≡ true
some_kept None f e = e
some_kept (Some b) f e = refl

pub stays_begun : (d : Draft) (items : List Item) → is_some d.begun ≡ true → is_some (drafted d items).begun ≡ true
stays_begun d [] e = e
stays_begun d (Label name ∷ items) e = stays_begun d items e
stays_begun d (Page segment place prot ∷ items) e = stays_begun (with_item d (Page segment place prot)) items e
stays_begun d (Word segment offset value ∷ items) e = stays_begun (with_item d (Word segment offset value)) items e
stays_begun d (Board ∷ items) e = stays_begun (with_item d Board) items refl
stays_begun d (Seg first second third fourth ∷ items) e =
    stays_begun (with_item d (Seg first second third fourth)) items (some_kept d.begun (λ x. record x { segs = first ∷ second ∷ third ∷ fourth ∷ [] }) e)
stays_begun d (Code instr label ∷ items) e =
    stays_begun (with_item d (Code instr label)) items (some_kept d.begun (λ x. record x { code = x.code ++ (instr ∷ []) }) e)

pub has_begun : (d : Draft) (parts : List (List Item)) → 1 ≤ length parts → is_some (drafted d (sections parts)).begun ≡ true
has_begun d [] some = absurd (omega arith)
has_begun d (part ∷ parts) some = stays_begun (with_item d Board) (part ++ sections parts) refl
