-- The labels of items, board by board.
use Rattle.std.proofs.Common.{◌≡◌, ◌≢◌, ℕ, suc, ◌+◌, ◌-◌, ◌%◌, ◌^◌, ◌<◌, ◌≤◌, ◌==◌, inl, inr, false, List, [], ◌∷◌, ◌++◌, length, take, Option, Some, None, refl, sym, ap, ◌∙◌, arith, subst}
use Rattle.std.specs.Prelude.{IfSome, ℤ, pos, negsuc, ◌+ℤ◌}
use Rattle.std.specs.List.{AllByRecursion, AllPairs, filter_map}
use Rattle.std.specs.Option.{option_map}
use Rattle.std.specs.Int.{w16, cast_signed}
use Rattle.std.proofs.lemmas.Bool.{cases_lt, le-ltb, ne_eqb}
use Rattle.std.proofs.lemmas.Int.{ints}
use Rattle.std.proofs.lemmas.List.{append_assoc, length-append, length-map, take_at}
use Rattle.spur_asm.specs.Item.{Item, Label, Board, Code}
use Rattle.spur_asm.specs.Section.{Named, labels_in, code_in, jump_of, LeadsTo, AllLead}
use Rattle.spur_asm.specs.Says.{sections}
use Rattle.spur_asm.specs.Context.{Placed, onto_labels, has_label, place_named, distance, immediate_of}
use Rattle.spur_asm.specs.declared.statement.Context.{Context}
use Rattle.spur_asm.proofs.Levels.{label_of, behind_item, behind_items}
use Rattle.spur_asm.proofs.ItemRuns.{AllIn, all_in_parts, all_in_append, HasNoBoard, boards_behind}
use Rattle.spur_asm.proofs.MayStand.{IsNew, LeadsIn}
use Rattle.spur_asm.proofs.BoardLabels.{at_board, all_at, AreOthers, Differ, Pairwise, AreFresh, pairwise_from_pairs, once_if_fresh, fresh_if_once, has_behind_others, none_has, all_apart, place_behind_others, HasNamed, found_named, named_found, named_from_contains, contains_from_named}

-- the labels of items, of which the first has this context
abbrev pub placed_items : Context → List Item → List Placed
placed_items c [] = []
placed_items c (item ∷ items) = onto_labels c (label_of item) (placed_items (behind_item c item) items)

pub placed_append : (c : Context) (items others : List Item) → placed_items c (items ++ others) ≡ placed_items c items ++ placed_items (behind_items c items) others
placed_append c [] others = refl
placed_append c (Label name ∷ items) others =
    ap (λ (ls : List Placed). record { board = c.boards; name = name; place = c.codes } ∷ ls) (placed_append (behind_item c (Label name)) items others)
placed_append c (item ∷ items) others = placed_append (behind_item c item) items others

pub labels_behind : (c : Context) (items : List Item) → (behind_items c items).labels ≡ c.labels + length (placed_items c items)
labels_behind c [] = omega arith
labels_behind c (Label name ∷ items) = (let on = labels_behind (behind_item c (Label name)) items in omega arith)
labels_behind c (item ∷ items) = labels_behind (behind_item c item) items

-- those of one board
pub placed_part : (c : Context) (items : List Item) → HasNoBoard items → placed_items c items ≡ all_at c.boards (labels_in c.codes items)
placed_part c [] whole = refl
placed_part c (Board ∷ items) whole = absurd (whole.0 refl)
placed_part c (Label name ∷ items) whole =
    ap (λ (ls : List Placed). record { board = c.boards; name = name; place = c.codes } ∷ ls) (placed_part (behind_item c (Label name)) items whole.1)
placed_part c (item ∷ items) whole = placed_part (behind_item c item) items whole.1

-- ---- the numbers of their boards

all_weaker : {X : Type 0} (P Q : X → Type 0) (xs : List X) → ((x : X) → P x → Q x) → AllByRecursion P xs → AllByRecursion Q xs
all_weaker P Q [] on h = tt
all_weaker P Q (x ∷ xs) on h = (on x h.0, all_weaker P Q xs on h.1)

all_both : {X : Type 0} (P : X → Type 0) (xs ys : List X) → AllByRecursion P xs → AllByRecursion P ys → AllByRecursion P (xs ++ ys)
all_both P [] ys h g = g
all_both P (x ∷ xs) ys h g = (h.0, all_both P xs ys h.1 g)

abbrev AreFrom : ℕ → List Placed → Type 0
AreFrom n ls = AllByRecursion (λ l. n ≤ l.board) ls

abbrev pub AreUpTo : ℕ → List Placed → Type 0
AreUpTo n ls = AllByRecursion (λ l. l.board ≤ n) ls

placed_from : (c : Context) (items : List Item) → AreFrom c.boards (placed_items c items)
placed_from c [] = tt
placed_from c (Label name ∷ items) = (omega arith, placed_from (behind_item c (Label name)) items)
placed_from c (Board ∷ items) =
    all_weaker (λ (l : Placed). c.boards + 1 ≤ l.board) (λ (l : Placed). c.boards ≤ l.board) (placed_items (behind_item c Board) items) (λ l h. omega arith) (placed_from (behind_item c Board) items)
placed_from c (item ∷ items) = placed_from (behind_item c item) items

up_to_own : (n : ℕ) (ls : List Named) → AreUpTo n (all_at n ls)
up_to_own n [] = tt
up_to_own n (l ∷ ls) = (omega arith, up_to_own n ls)

others_before : (n : ℕ) (ls : List Placed) → AreUpTo n ls → AreOthers (n + 1) ls
others_before n ls h = all_weaker (λ (l : Placed). l.board ≤ n) (λ (l : Placed). (l.board == (n + 1)) ≡ false) ls (λ l le. ne_eqb l.board (n + 1) (λ same. omega arith)) h

others_after : (n : ℕ) (ls : List Placed) → AreFrom (n + 1) ls → AreOthers n ls
others_after n ls h = all_weaker (λ (l : Placed). n + 1 ≤ l.board) (λ (l : Placed). (l.board == n) ≡ false) ls (λ l le. ne_eqb l.board n (λ same. omega arith)) h

-- the labels of the boards from the next on
others_on : (c : Context) (parts : List (List Item)) → AreOthers c.boards (placed_items c (sections parts))
others_on c [] = tt
others_on c (part ∷ parts) = others_after c.boards (placed_items (behind_item c Board) (part ++ sections parts)) (placed_from (behind_item c Board) (part ++ sections parts))

-- ---- no label twice

-- where reading stands in a board: labels of boards before, those of this board that were seen, and those of its items to come
record IsSeen (all before after : List Placed) (c : Context) (seen : List Named) (items : List Item) : Type 0 where
  others : AreOthers c.boards before
  count : c.labels ≡ length before + length seen
  are : all ≡ before ++ (all_at c.boards seen ++ (all_at c.boards (labels_in c.codes items) ++ after))

seen_more : (n : ℕ) (seen : List Named) (l : Named) (ls : List Named) (after : List Placed)
    → all_at n seen ++ (all_at n (l ∷ ls) ++ after) ≡ all_at n (seen ++ (l ∷ [])) ++ (all_at n ls ++ after)
seen_more n [] l ls after = refl
seen_more n (s ∷ seen) l ls after = ap (λ (xs : List Placed). at_board n s ∷ xs) (seen_more n seen l ls after)

seen_label : (all before after : List Placed) (c : Context) (seen : List Named) (name : List ℕ) (items : List Item) → IsSeen all before after c seen (Label name ∷ items)
    → IsSeen all before after (behind_item c (Label name)) (seen ++ (record { name = name; place = c.codes } ∷ [])) items
seen_label all before after c seen name items h =
    let l : Named = record { name = name; place = c.codes } in
    record {
      others = h.others;
      count = (let count = h.count in let more = length-append seen (l ∷ []) in omega arith);
      are = h.are ∙ ap (λ (xs : List Placed). before ++ xs) (seen_more c.boards seen l (labels_in c.codes items) after);
    }

seen_other : (all before after : List Placed) (c : Context) (seen : List Named) (item : Item) (items : List Item) → label_of item ≡ None → item ≢ Board → IsSeen all before after c seen (item ∷ items)
    → IsSeen all before after (behind_item c item) seen items
seen_other all before after c seen (Label name) items none whole h = absurd cc
seen_other all before after c seen Board items none whole h = absurd (whole refl)
seen_other all before after c seen (item) items none whole h = record { others = h.others; count = h.count; are = h.are }

-- the labels that stand before in the text
taken : (all before after : List Placed) (c : Context) (seen : List Named) (items : List Item) → IsSeen all before after c seen items → take c.labels all ≡ before ++ all_at c.boards seen
taken all before after c seen items h =
    let mine : List Placed = all_at c.boards seen in
    let rest : List Placed = all_at c.boards (labels_in c.codes items) ++ after in
    let split : all ≡ (before ++ mine) ++ rest = h.are ∙ sym (append_assoc before mine rest) in
    let long : length (before ++ mine) ≡ c.labels = length-append before mine ∙ ap (λ (k : ℕ). length before + k) (length-map seen (at_board c.boards)) ∙ sym h.count in
    ap (take c.labels) split ∙ take_at (before ++ mine) rest c.labels long

has_seen : (all before after : List Placed) (c : Context) (seen : List Named) (items : List Item) (name : List ℕ) → IsSeen all before after c seen items
    → has_label (take c.labels all) c.boards name ≡ has_label (all_at c.boards seen) c.boards name
has_seen all before after c seen items name h =
    ap (λ (ls : List Placed). has_label ls c.boards name) (taken all before after c seen items h) ∙ has_behind_others c.boards name before (all_at c.boards seen) h.others

new_if_fresh : (all before after : List Placed) (c : Context) (seen : List Named) (items : List Item) → HasNoBoard items → IsSeen all before after c seen items
    → AreFresh seen (labels_in c.codes items) → AllIn (IsNew all) c items
new_if_fresh all before after c seen [] whole h fresh = tt
new_if_fresh all before after c seen (Board ∷ items) whole h fresh = absurd (whole.0 refl)
new_if_fresh all before after c seen (Label name ∷ items) whole h fresh = (
  has_seen all before after c seen (Label name ∷ items) name h ∙ none_has c.boards name seen fresh.0,
  new_if_fresh all before after (behind_item c (Label name)) (seen ++ (record { name = name; place = c.codes } ∷ [])) items whole.1 (seen_label all before after c seen name items h) fresh.1,
)
new_if_fresh all before after c seen (item ∷ items) whole h fresh =
    (tt, new_if_fresh all before after (behind_item c item) seen items whole.1 (seen_other all before after c seen item items refl whole.0 h) fresh)

fresh_if_new : (all before after : List Placed) (c : Context) (seen : List Named) (items : List Item) → HasNoBoard items → IsSeen all before after c seen items
    → AllIn (IsNew all) c items → AreFresh seen (labels_in c.codes items)
fresh_if_new all before after c seen [] whole h new = tt
fresh_if_new all before after c seen (Board ∷ items) whole h new = absurd (whole.0 refl)
fresh_if_new all before after c seen (Label name ∷ items) whole h new = (
  all_apart c.boards name seen (sym (has_seen all before after c seen (Label name ∷ items) name h) ∙ new.0),
  fresh_if_new all before after (behind_item c (Label name)) (seen ++ (record { name = name; place = c.codes } ∷ [])) items whole.1 (seen_label all before after c seen name items h) new.1,
)
fresh_if_new all before after c seen (item ∷ items) whole h new =
    fresh_if_new all before after (behind_item c item) seen items whole.1 (seen_other all before after c seen item items refl whole.0 h) new.1

-- ---- instructions lead to their labels

high_signed : (n : ℕ) → 2 ^ 15 ≤ n → cast_signed w16 n ≡ negsuc (2 ^ 16 - suc n)
high_signed n le = rw (le-ltb n (2 ^ 15) le) refl

leads_back : (k : ℕ) → k < 4096 → cast_signed w16 (2 ^ 16 - (k + 1)) ≡ negsuc k
leads_back k lt =
    let same : 2 ^ 16 - suc (2 ^ 16 - (k + 1)) ≡ k = omega arith in
    high_signed (2 ^ 16 - (k + 1)) (omega arith) ∙ ap (λ (n : ℕ). negsuc n) same

distance_leads : (here there : ℕ) → here < 4096 → there ≤ 4096 → pos there ≡ pos (here + 1) +ℤ distance here there
distance_leads here there lt le = elim (cases_lt here there) [
  | inl on ↦ (
      let bits : (there + (2 ^ 16 - (here + 1) % 2 ^ 16)) % 2 ^ 16 ≡ there - (here + 1) = omega arith in
      let same : cast_signed w16 (there - (here + 1)) ≡ pos (there - (here + 1)) = omega (arith, ints) in
      let sum : pos there ≡ pos (here + 1) +ℤ pos (there - (here + 1)) = omega (arith, ints) in
      sum ∙ ap (λ (j : ℤ). pos (here + 1) +ℤ j) (sym same ∙ ap (cast_signed w16) (sym bits)))
  | inr back ↦ (
      let bits : (there + (2 ^ 16 - (here + 1) % 2 ^ 16)) % 2 ^ 16 ≡ 2 ^ 16 - (here - there + 1) = omega arith in
      let same : cast_signed w16 (2 ^ 16 - (here - there + 1)) ≡ negsuc (here - there) = leads_back (here - there) (omega arith) in
      let sum : pos there ≡ pos (here + 1) +ℤ negsuc (here - there) = omega (arith, ints) in
      sum ∙ ap (λ (j : ℤ). pos (here + 1) +ℤ j) (sym same ∙ ap (cast_signed w16) (sym bits)))
]

one_distance : (a : ℕ) (i j : ℤ) → pos a +ℤ i ≡ pos a +ℤ j → i ≡ j
one_distance a i j e = omega (arith, ints)

-- the labels of this board among all
record AreOf (all before after : List Placed) (n : ℕ) (ls : List Named) : Type 0 where
  others : AreOthers n before
  later : AreOthers n after
  are : all ≡ before ++ (all_at n ls ++ after)
  once : Pairwise Differ ls
  near : AllByRecursion (λ l. l.place ≤ 4096) ls

near_named : (ls : List Named) (name : List ℕ) (place : ℕ) → AllByRecursion (λ l. l.place ≤ 4096) ls → HasNamed ls name place → place ≤ 4096
near_named [] name place near h = absurd h
near_named (l ∷ ls) name place near h = elim h [
  | inl here ↦ (let le = near.0 in let same = here.1 in omega arith)
  | inr there ↦ near_named ls name place near.1 there
]

place_is : (all before after : List Placed) (n : ℕ) (ls : List Named) (name : List ℕ) → AreOf all before after n ls → place_named all n name ≡ place_named (all_at n ls ++ after) n name
place_is all before after n ls name h = ap (λ (xs : List Placed). place_named xs n name) h.are ∙ place_behind_others n name before (all_at n ls ++ after) h.others

leads_of : (all before after : List Placed) (n : ℕ) (ls : List Named) (here : ℕ) (name : List ℕ) (i : ℤ) (o : Option ℕ) → AreOf all before after n ls → here < 4096
    → place_named all n name ≡ o → option_map (distance here) o ≡ Some i → LeadsTo ls here name i
leads_of all before after n ls here name i None h lt place e = absurd cc
leads_of all before after n ls here name i (Some there) h lt place e =
    let named : HasNamed ls name there = found_named n name ls after there h.later (sym (place_is all before after n ls name h) ∙ place) in
    let same : distance here there ≡ i = cc in
    record {
      there = there;
      named = contains_from_named ls name there named;
      distance = distance_leads here there lt (near_named ls name there h.near named) ∙ ap (λ (j : ℤ). pos (here + 1) +ℤ j) same;
    }

immediate_leads : (all before after : List Placed) (n : ℕ) (ls : List Named) (here : ℕ) (name : List ℕ) (i : ℤ) → AreOf all before after n ls → here < 4096
    → LeadsTo ls here name i → option_map (distance here) (place_named all n name) ≡ Some i
immediate_leads all before after n ls here name i h lt leads =
    let named : HasNamed ls name leads.there = named_from_contains ls name leads.there leads.named in
    let place : place_named all n name ≡ Some leads.there = place_is all before after n ls name h ∙ named_found n name ls after leads.there h.once named in
    let same : distance here leads.there ≡ i = one_distance (here + 1) (distance here leads.there) i (sym (distance_leads here leads.there lt (near_named ls name leads.there h.near named)) ∙ leads.distance) in
    ap (option_map (distance here)) place ∙ ap (λ (j : ℤ). Some j) same

if_some_on : (o : Option ℤ) (P Q : ℤ → Type 0) → ((i : ℤ) → P i → Q i) → IfSome o P → IfSome o Q
if_some_on None P Q on h = tt
if_some_on (Some i) P Q on h = on i h

all_lead : (all before after : List Placed) (c : Context) (ls : List Named) (items : List Item) → HasNoBoard items → AreOf all before after c.boards ls → c.codes + length (filter_map code_in items) ≤ 4096
    → AllIn (LeadsIn all) c items → AllLead ls c.codes items
all_lead all before after c ls [] whole h few leads = tt
all_lead all before after c ls (Board ∷ items) whole h few leads = absurd (whole.0 refl)
all_lead all before after c ls (Code instr label ∷ items) whole h few leads = (
  if_some_on (jump_of instr) (λ i. immediate_of all c label ≡ Some i) (λ i. LeadsTo ls c.codes label i)
      (λ i e. leads_of all before after c.boards ls c.codes label i (place_named all c.boards label) h (omega arith) refl e) leads.0,
  all_lead all before after (behind_item c (Code instr label)) ls items whole.1 h (omega arith) leads.1,
)
all_lead all before after c ls (item ∷ items) whole h few leads = all_lead all before after (behind_item c item) ls items whole.1 h few leads.1

all_lead_back : (all before after : List Placed) (c : Context) (ls : List Named) (items : List Item) → HasNoBoard items → AreOf all before after c.boards ls → c.codes + length (filter_map code_in items) ≤ 4096
    → AllLead ls c.codes items → AllIn (LeadsIn all) c items
all_lead_back all before after c ls [] whole h few lead = tt
all_lead_back all before after c ls (Board ∷ items) whole h few lead = absurd (whole.0 refl)
all_lead_back all before after c ls (Code instr label ∷ items) whole h few lead = (
  if_some_on (jump_of instr) (λ i. LeadsTo ls c.codes label i) (λ i. immediate_of all c label ≡ Some i)
      (λ i to. immediate_leads all before after c.boards ls c.codes label i h (omega arith) to) lead.0,
  all_lead_back all before after (behind_item c (Code instr label)) ls items whole.1 h (omega arith) lead.1,
)
all_lead_back all before after c ls (item ∷ items) whole h few lead = (tt, all_lead_back all before after (behind_item c item) ls items whole.1 h few lead)

places_near : (n : ℕ) (items : List Item) → n + length (filter_map code_in items) ≤ 4096 → AllByRecursion (λ (l : Named). l.place ≤ 4096) (labels_in n items)
places_near n [] few = tt
places_near n (Label name ∷ items) few = ((omega arith), places_near n items few)
places_near n (Code instr label ∷ items) few = places_near (n + 1) items (omega arith)
places_near n (item ∷ items) few = places_near n items few

-- ---- board by board

-- what is asked of the labels of a board
pub record IsLabelled (part : List Item) : Type 0 where
  pub once : AllPairs Differ (labels_in 0 part)
  pub lead : AllLead (labels_in 0 part) 0 part

abbrev pub IsShortPart : List Item → Type 0
IsShortPart part = length (filter_map code_in part) ≤ 4096

-- where reading stands between two boards
pub record IsBetween (all before : List Placed) (c : Context) (parts : List (List Item)) : Type 0 where
  pub are : all ≡ before ++ placed_items c (sections parts)
  pub count : c.labels ≡ length before
  pub boards : AreUpTo c.boards before

abbrev begun : Context → Context
begun c = behind_item c Board

abbrev behind_part : Context → List Item → Context
behind_part c part = behind_items (begun c) part

split : (all before : List Placed) (c : Context) (part : List Item) (parts : List (List Item)) → HasNoBoard part → IsBetween all before c (part ∷ parts)
    → all ≡ before ++ (all_at (c.boards + 1) (labels_in 0 part) ++ placed_items (behind_part c part) (sections parts))
split all before c part parts whole h =
    h.are ∙ ap (λ (ls : List Placed). before ++ ls) (placed_append (begun c) part (sections parts)
    ∙ ap (λ (ls : List Placed). ls ++ placed_items (behind_part c part) (sections parts)) (placed_part (begun c) part whole))

seen_none : (all before : List Placed) (c : Context) (part : List Item) (parts : List (List Item)) → HasNoBoard part → IsBetween all before c (part ∷ parts)
    → IsSeen all before (placed_items (behind_part c part) (sections parts)) (begun c) [] part
seen_none all before c part parts whole h = record {
  others = others_before c.boards before h.boards;
  count = (let count = h.count in omega arith);
  are = split all before c part parts whole h;
}

later_others : (c : Context) (part : List Item) (parts : List (List Item)) → HasNoBoard part → AreOthers (c.boards + 1) (placed_items (behind_part c part) (sections parts))
later_others c part parts whole =
    subst (λ (n : ℕ). AreOthers n (placed_items (behind_part c part) (sections parts))) (boards_behind (begun c) part whole) (others_on (behind_part c part) parts)

labels_of : (all before : List Placed) (c : Context) (part : List Item) (parts : List (List Item)) → HasNoBoard part → IsShortPart part → IsBetween all before c (part ∷ parts) → AllPairs Differ (labels_in 0 part)
    → AreOf all before (placed_items (behind_part c part) (sections parts)) (c.boards + 1) (labels_in 0 part)
labels_of all before c part parts whole short h once = record {
  others = others_before c.boards before h.boards;
  later = later_others c part parts whole;
  are = split all before c part parts whole h;
  once = pairwise_from_pairs Differ (labels_in 0 part) once;
  near = places_near 0 part (omega arith);
}

-- behind one more board
next_between : (all before : List Placed) (c : Context) (part : List Item) (parts : List (List Item)) → HasNoBoard part → IsBetween all before c (part ∷ parts)
    → IsBetween all (before ++ placed_items (begun c) part) (behind_part c part) parts
next_between all before c part parts whole h =
    let own : List Placed = placed_items (begun c) part in
    let up : AreUpTo (c.boards + 1) own = subst (AreUpTo (c.boards + 1)) (sym (placed_part (begun c) part whole)) (up_to_own (c.boards + 1) (labels_in 0 part)) in
    let olds : AreUpTo (c.boards + 1) before = all_weaker (λ (l : Placed). l.board ≤ c.boards) (λ (l : Placed). l.board ≤ c.boards + 1) before (λ l le. omega arith) h.boards in
    record {
      are = h.are ∙ ap (λ (ls : List Placed). before ++ ls) (placed_append (begun c) part (sections parts)) ∙ sym (append_assoc before own (placed_items (behind_part c part) (sections parts)));
      count = (let count = h.count in let more = labels_behind (begun c) part in let both = length-append before own in omega arith);
      boards = subst (λ (n : ℕ). AreUpTo n (before ++ own)) (sym (boards_behind (begun c) part whole)) (all_both (λ (l : Placed). l.board ≤ c.boards + 1) before own olds up);
    }

-- labels that are new and lead wherever they have to
pub record AreLabelled (all : List Placed) (c : Context) (items : List Item) : Type 0 where
  pub new : AllIn (IsNew all) c items
  pub leads : AllIn (LeadsIn all) c items

pub labelled_if_read : (all before : List Placed) (c : Context) (parts : List (List Item)) → AllByRecursion HasNoBoard parts → AllByRecursion IsShortPart parts → IsBetween all before c parts
    → AreLabelled all c (sections parts) → AllByRecursion IsLabelled parts
labelled_if_read all before c [] whole short h read = tt
labelled_if_read all before c (part ∷ parts) whole short h read =
    let after : List Placed = placed_items (behind_part c part) (sections parts) in
    let new = all_in_parts (IsNew all) (begun c) part (sections parts) read.new.1 in
    let leads = all_in_parts (LeadsIn all) (begun c) part (sections parts) read.leads.1 in
    let once = once_if_fresh (labels_in 0 part) (fresh_if_new all before after (begun c) [] part whole.0 (seen_none all before c part parts whole.0 h) new.0) in (
      record {
        once = once;
        lead = all_lead all before after (begun c) (labels_in 0 part) part whole.0 (labels_of all before c part parts whole.0 short.0 h once) (let few = short.0 in omega arith) leads.0;
      },
      labelled_if_read all (before ++ placed_items (begun c) part) (behind_part c part) parts whole.1 short.1 (next_between all before c part parts whole.0 h)
          (record { new = new.1; leads = leads.1 }),
    )

pub read_if_labelled : (all before : List Placed) (c : Context) (parts : List (List Item)) → AllByRecursion HasNoBoard parts → AllByRecursion IsShortPart parts → IsBetween all before c parts
    → AllByRecursion IsLabelled parts → AreLabelled all c (sections parts)
read_if_labelled all before c [] whole short h sound = record { new = tt; leads = tt }
read_if_labelled all before c (part ∷ parts) whole short h sound =
    let after : List Placed = placed_items (behind_part c part) (sections parts) in
    let on = read_if_labelled all (before ++ placed_items (begun c) part) (behind_part c part) parts whole.1 short.1 (next_between all before c part parts whole.0 h) sound.1 in
    let new = new_if_fresh all before after (begun c) [] part whole.0 (seen_none all before c part parts whole.0 h) (fresh_if_once (labels_in 0 part) sound.0.once) in
    let leads = all_lead_back all before after (begun c) (labels_in 0 part) part whole.0 (labels_of all before c part parts whole.0 short.0 h sound.0.once) (let few = short.0 in omega arith) sound.0.lead in
    record {
      new = (tt, all_in_append (IsNew all) (begun c) part (sections parts) new on.new);
      leads = (tt, all_in_append (LeadsIn all) (begun c) part (sections parts) leads on.leads);
    }
