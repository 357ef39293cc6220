-- Items by their boards: where each may stand and which boards they make, both ways.
use Rattle.std.proofs.Common.{◌≡◌, ℕ, ◌+◌, ◌≤◌, ◌==◌, false, List, [], ◌∷◌, ◌++◌, length, refl, ap, ◌∙◌, arith, subst}
use Rattle.std.specs.Prelude.{⊤, ℤ, true}
use Rattle.std.specs.List.{AllByRecursion, AllZip, filter_map}
use Rattle.std.proofs.lemmas.Bool.{eq-eqb, ne_eqb}
use Rattle.spur_addr.specs.declared.page_entry.Protection.{Protection}
use Rattle.spur_isa.specs.declared.instr.Instr.{Instr}
use Rattle.spur_object.specs.declared.unit.BoardText.{BoardText}
use Rattle.spur_asm.specs.Item.{Item, Label, Page, Word, Board, Seg, Code}
use Rattle.spur_asm.specs.Section.{segs_in, first_segs, SetsSegs, SaysBoard}
use Rattle.spur_asm.specs.Says.{IsAnywhere, sections}
use Rattle.spur_asm.specs.Context.{Placed, first_context}
use Rattle.spur_asm.specs.Draft.{fresh_board}
use Rattle.spur_asm.specs.declared.statement.Context.{Context}
use Rattle.spur_asm.proofs.Levels.{AllStand, behind_item, behind_items}
use Rattle.spur_asm.proofs.ItemRuns.{AllIn, all_in_parts, all_in_append, behind_append, Behind, at_end, from_end, IsNoBoard, HasNoBoard, boards_behind, segs_behind, codes_behind}
use Rattle.spur_asm.proofs.MayStand.{IsNew, LeadsIn, all_stand_parts, all_stand_from, IsFew, IsShort, IsApt, few_before, short_before, all_fit_if_may, all_may_if_fit}
use Rattle.spur_asm.proofs.ItemDrafts.{last_segs, board_with, boards_of}
use Rattle.spur_asm.proofs.ItemLabels.{placed_items, placed_append, IsLabelled, IsShortPart, IsBetween, labelled_if_read, read_if_labelled}

-- ---- all items have sections

pub record IsSplit (items : List Item) : Type 0 where
  pub front : List Item
  pub parts : List (List Item)
  pub joined : items ≡ front ++ sections parts
  pub front_whole : HasNoBoard front
  pub whole : AllByRecursion HasNoBoard parts

pub split_of : (items : List Item) → IsSplit items
split_of [] = record { front = []; parts = []; joined = refl; front_whole = tt; whole = tt }
split_of (Board ∷ items) =
    let on = split_of items in
    record {
      front = [];
      parts = on.front ∷ on.parts;
      joined = ap (λ (is : List Item). Board ∷ is) on.joined;
      front_whole = tt;
      whole = (on.front_whole, on.whole);
    }
split_of (item ∷ items) =
    let on = split_of items in
    record {
      front = item ∷ on.front;
      parts = on.parts;
      joined = ap (λ (is : List Item). item ∷ is) on.joined;
      front_whole = ((λ same. absurd cc), on.front_whole);
      whole = on.whole;
    }

-- ---- boards that are said

-- what is asked of the items of a board
pub record IsSound (part : List Item) : Type 0 where
  pub short : IsShortPart part
  pub one : length (filter_map segs_in part) ≤ 1
  pub labelled : IsLabelled part

sets_once : (sets : List (List ℕ)) (segs : List ℕ) → SetsSegs sets segs → (length sets ≤ 1) × (segs ≡ last_segs first_segs sets)
sets_once [] segs h = ((omega arith), h)
sets_once (set ∷ []) segs h = ((omega arith), h)
sets_once (set ∷ again ∷ more) segs h = absurd h

sets_segs : (sets : List (List ℕ)) → length sets ≤ 1 → SetsSegs sets (last_segs first_segs sets)
sets_segs [] le = refl
sets_segs (set ∷ []) le = refl
sets_segs (set ∷ again ∷ more) le = absurd (omega arith)

sound_if_said : (part : List Item) (b : BoardText) → SaysBoard part b → IsSound part × (b ≡ board_with fresh_board part)
sound_if_said part b h =
    let segs = sets_once (filter_map segs_in part) b.segs h.segs in
    let code = h.code in (
      record { short = subst (λ (is : List Instr). length is ≤ 4096) code h.few; one = segs.0; labelled = record { once = h.once; lead = h.lead } },
      (λ k. record { segs = segs.1 k; code = code k }),
    )

said_if_sound : (part : List Item) → IsSound part → SaysBoard part (board_with fresh_board part)
said_if_sound part h = record {
  code = refl;
  few = h.short;
  segs = sets_segs (filter_map segs_in part) h.one;
  once = h.labelled.once;
  lead = h.labelled.lead;
}

pub all_sound : (parts : List (List Item)) (boards : List BoardText) → AllZip SaysBoard parts boards → AllByRecursion IsSound parts × (boards ≡ boards_of parts)
all_sound [] [] h = (tt, refl)
all_sound [] (b ∷ boards) h = absurd h
all_sound (part ∷ parts) [] h = absurd h
all_sound (part ∷ parts) (b ∷ boards) h =
    let here = sound_if_said part b h.0 in
    let on = all_sound parts boards h.1 in
    ((here.0, on.0), (λ k. here.1 k ∷ on.1 k))

pub all_said : (parts : List (List Item)) → AllByRecursion IsSound parts → AllZip SaysBoard parts (boards_of parts)
all_said [] h = tt
all_said (part ∷ parts) h = (said_if_sound part h.0, all_said parts h.1)

-- ---- the items before all boards

-- the context has the same boards and labels before it
record IsBeside (c e : Context) : Type 0 where
  boards : e.boards ≡ c.boards
  labels : e.labels ≡ c.labels

beside : (c : Context) (items : List Item) → AllByRecursion IsAnywhere items → IsBeside c (behind_items c items)
beside c [] h = record { boards = refl; labels = refl }
beside c (Page segment place prot ∷ items) h =
    let on = beside (behind_item c (Page segment place prot)) items h.1 in
    record { boards = on.boards; labels = on.labels }
beside c (Word segment offset value ∷ items) h =
    let on = beside (behind_item c (Word segment offset value)) items h.1 in
    record { boards = on.boards; labels = on.labels }
beside c (item ∷ items) h = absurd h.0

none_placed : (c : Context) (items : List Item) → AllByRecursion IsAnywhere items → placed_items c items ≡ []
none_placed c [] h = refl
none_placed c (Page segment place prot ∷ items) h = none_placed (behind_item c (Page segment place prot)) items h.1
none_placed c (Word segment offset value ∷ items) h = none_placed (behind_item c (Word segment offset value)) items h.1
none_placed c (item ∷ items) h = absurd h.0

-- what a page and a word have where no `.seg` and no instruction stands before, all items before the boards have
front_has : (P : Context → Item → Type 0) → ((c : Context) (segment place : ℕ) (prot : Protection) → c.segs ≡ 0 → c.codes ≡ 0 → P c (Page segment place prot))
    → ((c : Context) (segment offset : ℕ) (value : ℤ) → c.segs ≡ 0 → c.codes ≡ 0 → P c (Word segment offset value))
    → (c : Context) (items : List Item) → c.segs ≡ 0 → c.codes ≡ 0 → AllByRecursion IsAnywhere items → AllIn P c items
front_has P page word c [] segs codes h = tt
front_has P page word c (Page segment place prot ∷ items) segs codes h =
    (page c segment place prot segs codes, front_has P page word (behind_item c (Page segment place prot)) items segs codes h.1)
front_has P page word c (Word segment offset value ∷ items) segs codes h =
    (word c segment offset value segs codes, front_has P page word (behind_item c (Word segment offset value)) items segs codes h.1)
front_has P page word c (item ∷ items) segs codes h = absurd h.0

not_apt : (c : Context) → c.boards ≡ 0 → (c.boards == 0) ≡ false → ⊥
not_apt c none e = (let at : (c.boards == 0) ≡ true = eq-eqb c.boards 0 none in cc)

anywhere_if_apt : (c : Context) (items : List Item) → c.boards ≡ 0 → HasNoBoard items → AllIn IsApt c items → AllByRecursion IsAnywhere items
anywhere_if_apt c [] none whole h = tt
anywhere_if_apt c (Page segment place prot ∷ items) none whole h = (tt, anywhere_if_apt (behind_item c (Page segment place prot)) items none whole.1 h.1)
anywhere_if_apt c (Word segment offset value ∷ items) none whole h = (tt, anywhere_if_apt (behind_item c (Word segment offset value)) items none whole.1 h.1)
anywhere_if_apt c (Board ∷ items) none whole h = absurd (whole.0 refl)
anywhere_if_apt c (item ∷ items) none whole h = absurd (not_apt c none h.0)

pub anywhere_whole : (items : List Item) → AllByRecursion IsAnywhere items → HasNoBoard items
anywhere_whole [] h = tt
anywhere_whole (Board ∷ items) h = absurd h.0
anywhere_whole (item ∷ items) h = ((λ same. absurd cc), anywhere_whole items h.1)

-- ---- the items of boards

apt_part : (c : Context) (items : List Item) → HasNoBoard items → (c.boards == 0) ≡ false → AllIn IsApt c items
apt_part c [] whole some = tt
apt_part c (Label name ∷ items) whole some = (some, apt_part (behind_item c (Label name)) items whole.1 some)
apt_part c (Page segment place prot ∷ items) whole some = (tt, apt_part (behind_item c (Page segment place prot)) items whole.1 some)
apt_part c (Word segment offset value ∷ items) whole some = (tt, apt_part (behind_item c (Word segment offset value)) items whole.1 some)
apt_part c (Board ∷ items) whole some = absurd (whole.0 refl)
apt_part c (Seg first second third fourth ∷ items) whole some = (some, apt_part (behind_item c (Seg first second third fourth)) items whole.1 some)
apt_part c (Code instr label ∷ items) whole some = (some, apt_part (behind_item c (Code instr label)) items whole.1 some)

apt_parts : (c : Context) (parts : List (List Item)) → AllByRecursion HasNoBoard parts → AllIn IsApt c (sections parts)
apt_parts c [] whole = tt
apt_parts c (part ∷ parts) whole = (
  tt,
  all_in_append IsApt (behind_item c Board) part (sections parts)
      (apt_part (behind_item c Board) part whole.0 (ne_eqb (c.boards + 1) 0 (λ same. omega arith)))
      (apt_parts (behind_items (behind_item c Board) part) parts whole.1),
)

-- few instructions, and one `.seg` at most
record IsBrief (part : List Item) : Type 0 where
  short : IsShortPart part
  one : length (filter_map segs_in part) ≤ 1

new_short : (c : Context) → IsShort (behind_item c Board)
new_short c = record { segs = omega arith; codes = omega arith }

brief_if_short : (c : Context) (parts : List (List Item)) → AllByRecursion HasNoBoard parts → AllIn (Behind IsShort) c (sections parts) → AllByRecursion IsBrief parts
brief_if_short c [] whole h = tt
brief_if_short c (part ∷ parts) whole h =
    let b : Context = behind_item c Board in
    let halves = all_in_parts (Behind IsShort) b part (sections parts) h.1 in
    let end : IsShort (behind_items b part) = at_end IsShort b part h.0 halves.0 in
    let segs = segs_behind b part whole.0 in
    let codes = codes_behind b part whole.0 in
    (record { short = (let le = end.codes in omega arith); one = (let le = end.segs in omega arith) }, brief_if_short (behind_items b part) parts whole.1 halves.1)

short_if_sound : (c : Context) (parts : List (List Item)) → AllByRecursion HasNoBoard parts → AllByRecursion IsSound parts → AllIn (Behind IsShort) c (sections parts)
short_if_sound c [] whole h = tt
short_if_sound c (part ∷ parts) whole h =
    let b : Context = behind_item c Board in
    let segs = segs_behind b part whole.0 in
    let codes = codes_behind b part whole.0 in
    let end : IsShort (behind_items b part) = record { segs = (let le = h.0.one in omega arith); codes = (let le = h.0.short in omega arith) } in (
      new_short c,
      all_in_append (Behind IsShort) b part (sections parts)
          (from_end IsShort IsNoBoard short_before b part whole.0 end).1
          (short_if_sound (behind_items b part) parts whole.1 h.1),
    )

pub boards_counted : (c : Context) (parts : List (List Item)) → AllByRecursion HasNoBoard parts → (behind_items c (sections parts)).boards ≡ c.boards + length parts
boards_counted c [] whole = omega arith
boards_counted c (part ∷ parts) whole =
    let b : Context = behind_item c Board in
    let same = ap (λ (x : Context). x.boards) (behind_append b part (sections parts)) in
    let on = boards_counted (behind_items b part) parts whole.1 in
    let here = boards_behind b part whole.0 in
    omega arith

all_shorts : (parts : List (List Item)) → AllByRecursion IsSound parts → AllByRecursion IsShortPart parts
all_shorts [] h = tt
all_shorts (part ∷ parts) h = (h.0.short, all_shorts parts h.1)

brief_shorts : (parts : List (List Item)) → AllByRecursion IsBrief parts → AllByRecursion IsShortPart parts
brief_shorts [] h = tt
brief_shorts (part ∷ parts) h = (h.0.short, brief_shorts parts h.1)

all_labelled : (parts : List (List Item)) → AllByRecursion IsSound parts → AllByRecursion IsLabelled parts
all_labelled [] h = tt
all_labelled (part ∷ parts) h = (h.0.labelled, all_labelled parts h.1)

sound_from : (parts : List (List Item)) → AllByRecursion IsBrief parts → AllByRecursion IsLabelled parts → AllByRecursion IsSound parts
sound_from [] brief labelled = tt
sound_from (part ∷ parts) brief labelled = (record { short = brief.0.short; one = brief.0.one; labelled = labelled.0 }, sound_from parts brief.1 labelled.1)

-- ---- all items

all_true : (items : List Item) → AllByRecursion (λ _. ⊤) items
all_true [] = tt
all_true (item ∷ items) = (tt, all_true items)

-- the labels of all items are those of the boards
between : (front : List Item) (parts : List (List Item)) → AllByRecursion IsAnywhere front
    → IsBetween (placed_items first_context (front ++ sections parts)) [] (behind_items first_context front) parts
between front parts h =
    let c : Context = behind_items first_context front in
    record {
      are = placed_append first_context front (sections parts) ∙ ap (λ (ls : List Placed). ls ++ placed_items c (sections parts)) (none_placed first_context front h);
      count = (beside first_context front h).labels;
      boards = tt;
    }

-- items whose sections are sound may stand
pub stand_if_sound : (front : List Item) (parts : List (List Item)) → AllByRecursion IsAnywhere front → AllByRecursion HasNoBoard parts → AllByRecursion IsSound parts
    → IsFew (behind_items first_context (front ++ sections parts)) → AllStand (placed_items first_context (front ++ sections parts)) first_context (front ++ sections parts)
stand_if_sound front parts anywhere whole sound few =
    let items : List Item = front ++ sections parts in
    let all : List Placed = placed_items first_context items in
    let c : Context = behind_items first_context front in
    let labelled = read_if_labelled all [] c parts whole (all_shorts parts sound) (between front parts anywhere) (all_labelled parts sound) in
    let apt = all_in_append IsApt first_context front (sections parts)
    (front_has IsApt (λ x segment place prot e f. tt) (λ x segment offset value e f. tt) first_context front refl refl anywhere)
    (apt_parts c parts whole) in
    let short = all_in_append (Behind IsShort) first_context front (sections parts)
    (front_has (Behind IsShort) (λ x segment place prot e f. record { segs = omega arith; codes = omega arith }) (λ x segment offset value e f. record { segs = omega arith; codes = omega arith }) first_context front refl refl anywhere)
    (short_if_sound c parts whole sound) in
    let fews = (from_end IsFew (λ _. ⊤) (λ x item t h. few_before x item h) first_context items (all_true items) few).1 in
    let new = all_in_append (IsNew all) first_context front (sections parts)
    (front_has (IsNew all) (λ x segment place prot e f. tt) (λ x segment offset value e f. tt) first_context front refl refl anywhere) labelled.new in
    let leads = all_in_append (LeadsIn all) first_context front (sections parts)
    (front_has (LeadsIn all) (λ x segment place prot e f. tt) (λ x segment offset value e f. tt) first_context front refl refl anywhere) labelled.leads in
    all_stand_from all first_context items (all_may_if_fit first_context items apt fews short) new leads

-- what is known of items that may stand
pub record AreSound (front : List Item) (parts : List (List Item)) : Type 0 where
  pub anywhere : AllByRecursion IsAnywhere front
  pub sound : AllByRecursion IsSound parts
  pub few : IsFew (behind_items first_context (front ++ sections parts))

pub sound_if_stand : (front : List Item) (parts : List (List Item)) → HasNoBoard front → AllByRecursion HasNoBoard parts
    → AllStand (placed_items first_context (front ++ sections parts)) first_context (front ++ sections parts) → AreSound front parts
sound_if_stand front parts front_whole whole stand =
    let items : List Item = front ++ sections parts in
    let all : List Placed = placed_items first_context items in
    let c : Context = behind_items first_context front in
    let has = all_stand_parts all first_context items stand in
    let few : IsFew first_context = record { pages = omega arith; words = omega arith; boards = omega arith } in
    let fit = all_fit_if_may first_context items few (record { segs = omega arith; codes = omega arith }) has.may in
    let apt = all_in_parts IsApt first_context front (sections parts) fit.apt in
    let anywhere = anywhere_if_apt first_context front refl front_whole apt.0 in
    let short = all_in_parts (Behind IsShort) first_context front (sections parts) fit.short in
    let brief = brief_if_short c parts whole short.1 in
    let new = all_in_parts (IsNew all) first_context front (sections parts) has.new in
    let leads = all_in_parts (LeadsIn all) first_context front (sections parts) has.leads in
    let labelled = labelled_if_read all [] c parts whole (brief_shorts parts brief) (between front parts anywhere) (record { new = new.1; leads = leads.1 }) in
    record { anywhere = anywhere; sound = sound_from parts brief labelled; few = at_end IsFew first_context items few fit.few }
