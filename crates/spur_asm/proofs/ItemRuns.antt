-- Items one after the other, each in its context.
use Rattle.std.proofs.Common.{◌≡◌, ◌≢◌, ℕ, ◌+◌, List, [], ◌∷◌, ◌++◌, length, refl, arith}
use Rattle.std.specs.Prelude.{⊤}
use Rattle.std.proofs.lemmas.List.Sums.{fold-append}
use Rattle.std.specs.List.{AllByRecursion, filter_map}
use Rattle.spur_asm.specs.Item.{Item, Page, Word, Board, Seg, Code}
use Rattle.spur_asm.specs.Section.{page_text_in, word_text_in, segs_in, code_in}
use Rattle.spur_asm.specs.declared.statement.Context.{Context}
use Rattle.spur_asm.proofs.Levels.{behind_item, behind_items}

-- ---- what holds of each item in its context

abbrev pub AllIn : (Context → Item → Type 0) → Context → List Item → Type 0
AllIn P c [] = ⊤
AllIn P c (item ∷ items) = P c item × AllIn P (behind_item c item) items

pub behind_append : (c : Context) (items others : List Item) → behind_items c (items ++ others) ≡ behind_items (behind_items c items) others
behind_append c items others = fold-append behind_item c items others

pub all_in_parts : (P : Context → Item → Type 0) (c : Context) (items others : List Item) → AllIn P c (items ++ others) → AllIn P c items × AllIn P (behind_items c items) others
all_in_parts P c [] others h = (tt, h)
all_in_parts P c (item ∷ items) others h =
    let on = all_in_parts P (behind_item c item) items others h.1 in
    ((h.0, on.0), on.1)

pub all_in_append : (P : Context → Item → Type 0) (c : Context) (items others : List Item) → AllIn P c items → AllIn P (behind_items c items) others → AllIn P c (items ++ others)
all_in_append P c [] others h more = more
all_in_append P c (item ∷ items) others h more = (h.0, all_in_append P (behind_item c item) items others h.1 more)

-- ---- what holds of each context behind an item

abbrev pub Behind : (Context → Type 0) → Context → Item → Type 0
Behind Q c item = Q (behind_item c item)

pub at_end : (Q : Context → Type 0) (c : Context) (items : List Item) → Q c → AllIn (Behind Q) c items → Q (behind_items c items)
at_end Q c [] here h = here
at_end Q c (item ∷ items) here h = at_end Q (behind_item c item) items h.0 h.1

-- where it held before an item if it holds behind it
pub from_end : (Q : Context → Type 0) (N : Item → Type 0) → ((c : Context) (item : Item) → N item → Q (behind_item c item) → Q c)
    → (c : Context) (items : List Item) → AllByRecursion N items → Q (behind_items c items) → Q c × AllIn (Behind Q) c items
from_end Q N before c [] whole h = (h, tt)
from_end Q N before c (item ∷ items) whole h =
    let on = from_end Q N before (behind_item c item) items whole.1 h in
    (before c item whole.0 on.0, (on.0, on.1))

-- ---- the counts behind items

abbrev pub IsNoBoard : Item → Type 0
IsNoBoard item = item ≢ Board

abbrev pub HasNoBoard : List Item → Type 0
HasNoBoard items = AllByRecursion IsNoBoard items

none_more : (n : ℕ) → n ≡ n + 0
none_more n = omega arith

pub pages_behind : (c : Context) (items : List Item) → (behind_items c items).pages ≡ c.pages + length (filter_map page_text_in items)
pages_behind c [] = none_more c.pages
pages_behind c (Page segment place prot ∷ items) = (let on = pages_behind (behind_item c (Page segment place prot)) items in omega arith)
pages_behind c (item ∷ items) = pages_behind (behind_item c item) items

pub words_behind : (c : Context) (items : List Item) → (behind_items c items).words ≡ c.words + length (filter_map word_text_in items)
words_behind c [] = none_more c.words
words_behind c (Word segment offset value ∷ items) = (let on = words_behind (behind_item c (Word segment offset value)) items in omega arith)
words_behind c (item ∷ items) = words_behind (behind_item c item) items

-- among items of one board

pub boards_behind : (c : Context) (items : List Item) → HasNoBoard items → (behind_items c items).boards ≡ c.boards
boards_behind c [] whole = refl
boards_behind c (Board ∷ items) whole = absurd (whole.0 refl)
boards_behind c (item ∷ items) whole = boards_behind (behind_item c item) items whole.1

pub segs_behind : (c : Context) (items : List Item) → HasNoBoard items → (behind_items c items).segs ≡ c.segs + length (filter_map segs_in items)
segs_behind c [] whole = none_more c.segs
segs_behind c (Board ∷ items) whole = absurd (whole.0 refl)
segs_behind c (Seg first second third fourth ∷ items) whole = (let on = segs_behind (behind_item c (Seg first second third fourth)) items whole.1 in omega arith)
segs_behind c (item ∷ items) whole = segs_behind (behind_item c item) items whole.1

pub codes_behind : (c : Context) (items : List Item) → HasNoBoard items → (behind_items c items).codes ≡ c.codes + length (filter_map code_in items)
codes_behind c [] whole = none_more c.codes
codes_behind c (Board ∷ items) whole = absurd (whole.0 refl)
codes_behind c (Code instr label ∷ items) whole = (let on = codes_behind (behind_item c (Code instr label)) items whole.1 in omega arith)
codes_behind c (item ∷ items) whole = codes_behind (behind_item c item) items whole.1
