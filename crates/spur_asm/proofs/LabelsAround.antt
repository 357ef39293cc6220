-- The labels of a line's board among those of all lines are the labels of the lines around it.
use Rattle.std.proofs.Common.{◌≡◌, ◌∙◌, ◌↔◌, inl, inr, refl, sym, ap, subst, ℕ, zero, suc, ◌+◌, ◌<◌, ◌≤◌, Bool, true, false, ◌||◌, ◌==◌, cond, List, [], ◌∷◌, ◌++◌, take, length, slice_index_or, Option, Some, None, ℤ, arith}
use Rattle.std.specs.List.{AllByRecursion, AllZip, Contains, cons_option, list_any, position_or_len}
use Rattle.std.specs.Option.{option_map}
use Rattle.std.specs.Str.{bytes_eq}
use Rattle.std.proofs.lemmas.Bool.{both_ways, eq-eqb, eqb-true, ne_eqb, or_right}
use Rattle.std.proofs.lemmas.List.{append_assoc, append-nil, take_at}
use Rattle.std.proofs.lemmas.List.Elements.{filter_map-append}
use Rattle.std.proofs.lemmas.List.Folds.{list_any-append}
use Rattle.std.proofs.lemmas.Slice.Eq.{bytes_eq-Decides}
use Rattle.spur_asm.specs.Context.{Placed, distance, has_label, immediate_of, is_label, label_fault, labels_from, leading_label, next_context, onto_labels, place_named}
use Rattle.spur_asm.specs.Counts.{begins_board, begins_board_in, counted, is_board, label_of_cut, labels_around, labels_on, lines_with, since_board, sort_of_cut, up_to_board}
use Rattle.spur_asm.specs.Faults.{LabelFault}
use Rattle.spur_asm.specs.Lexeme.{lexemes_of}
use Rattle.spur_asm.specs.Pieces.{Cut, IsCut}
use Rattle.spur_asm.specs.declared.fault.AsmKind.{AsmKind}
use Rattle.spur_asm.specs.declared.fault.AsmKind.TheVariants.{BadToken, Twice}
use Rattle.spur_asm.specs.declared.statement.Context.{Context}
use Rattle.spur_asm.specs.declared.statement.Sort.{Sort}
use Rattle.spur_asm.proofs.CountLaw.{last_by, lines_more, next_counted, plus_by}
use Rattle.spur_asm.proofs.FieldKinds.{AreTargets}
use Rattle.spur_asm.proofs.LineJudged.{Agrees, label_found}
use Rattle.spur_asm.proofs.PieceCuts.{line_found}

-- ---- the labels of lines, as they are cut

-- the labels of lines that stand behind these
abbrev pub placed_cuts : List Cut → List Cut → List Placed
placed_cuts before [] = []
placed_cuts before (cut ∷ cuts) = onto_labels (counted before) (label_of_cut cut) (placed_cuts (before ++ (cut ∷ [])) cuts)

onto_append : (c : Context) (o : Option (List ℕ)) (xs ys : List Placed) → onto_labels c o (xs ++ ys) ≡ onto_labels c o xs ++ ys
onto_append c None xs ys = refl
onto_append c (Some name) xs ys = refl

pub placed_append : (before xs ys : List Cut) → placed_cuts before (xs ++ ys) ≡ placed_cuts before xs ++ placed_cuts (before ++ xs) ys
placed_append before [] ys = ap (λ (b : List Cut). placed_cuts b ys) (sym (append-nil before))
placed_append before (x ∷ xs) ys =
    ap (onto_labels (counted before) (label_of_cut x)) (placed_append (before ++ (x ∷ [])) xs ys)
    ∙ onto_append (counted before) (label_of_cut x) (placed_cuts (before ++ (x ∷ [])) xs) (placed_cuts ((before ++ (x ∷ [])) ++ xs) ys)
    ∙ ap (λ (b : List Cut). placed_cuts before (x ∷ xs) ++ placed_cuts b ys) (append_assoc before (x ∷ []) xs)

-- what is read of the labels of all lines
pub labels_are_placed : (before : List Cut) (lines : List (List ℕ)) (cuts : List Cut) → AllZip IsCut lines cuts → labels_from (counted before) lines ≡ placed_cuts before cuts
labels_are_placed before [] [] z = refl
labels_are_placed before [] (cut ∷ cuts) z = absurd z
labels_are_placed before (line ∷ lines) [] z = absurd z
labels_are_placed before (line ∷ lines) (cut ∷ cuts) z =
    let label : leading_label (lexemes_of line) ≡ label_of_cut cut = label_found cut.end None cut.pieces (lexemes_of line) (line_found line cut z.0) in
    ap (λ (o : Option (List ℕ)). onto_labels (counted before) o (labels_from (next_context (counted before) line) lines)) label
    ∙ ap (λ (c : Context). onto_labels (counted before) (label_of_cut cut) (labels_from c lines)) (next_counted line cut before z.0)
    ∙ ap (onto_labels (counted before) (label_of_cut cut)) (labels_are_placed (before ++ (cut ∷ [])) lines cuts z.1)

onto_count : (c : Context) (o : Option (List ℕ)) (xs : List Placed) (ys : List (List ℕ)) → length xs ≡ length ys → length (onto_labels c o xs) ≡ length (cons_option o ys)
onto_count c None xs ys e = e
onto_count c (Some name) xs ys e = omega (arith, e)

placed_count : (before cuts : List Cut) → length (placed_cuts before cuts) ≡ length (labels_on cuts)
placed_count before [] = refl
placed_count before (cut ∷ cuts) = onto_count (counted before) (label_of_cut cut) (placed_cuts (before ++ (cut ∷ [])) cuts) (labels_on cuts) (placed_count (before ++ (cut ∷ [])) cuts)

-- those of the lines before a line, among those of all lines
pub placed_before : (before from : List Cut) → take (counted before).labels (placed_cuts [] (before ++ from)) ≡ placed_cuts [] before
placed_before before from =
    ap (take (counted before).labels) (placed_append [] before from)
    ∙ take_at (placed_cuts [] before) (placed_cuts before from) (counted before).labels (placed_count [] before)

-- ---- from the last line back

pub from_left : {X : Type 0} (P : List X → Type 0) → ((xs : List X) (x : X) → P xs → P (xs ++ (x ∷ []))) → (xs ys : List X) → P xs → P (xs ++ ys)
from_left P step xs [] p = subst P (sym (append-nil xs)) p
from_left P step xs (y ∷ ys) p = subst P (append_assoc xs (y ∷ []) ys) (from_left P step (xs ++ (y ∷ [])) ys (step xs y p))

-- ---- the numbers of the boards

abbrev AreFrom : ℕ → List Placed → Type 0
AreFrom n ls = AllByRecursion (λ l. n ≤ l.board) ls

abbrev AreUpTo : ℕ → List Placed → Type 0
AreUpTo n ls = AllByRecursion (λ l. l.board ≤ n) ls

boards_grow : (before : List Cut) (cut : Cut) → lines_with is_board before ≤ lines_with is_board (before ++ (cut ∷ []))
boards_grow before cut = (let more = lines_more is_board before cut in let low = by (sort_of_cut cut) (lines_with is_board before) in omega (arith, more, low))
  where
    test : (t : Bool) (n : ℕ) → n ≤ cond t (n + 1) n
    test true n = omega arith
    test false n = omega arith

    by : (o : Option Sort) (n : ℕ) → n ≤ plus_by is_board o n
    by None n = omega arith
    by (Some sort) n = test (is_board sort) n

onto_from : (n : ℕ) (c : Context) (o : Option (List ℕ)) (ls : List Placed) → n ≤ c.boards → AreFrom n ls → AreFrom n (onto_labels c o ls)
onto_from n c None ls low h = h
onto_from n c (Some name) ls low h = (low, h)

are_from : (n : ℕ) (before cuts : List Cut) → n ≤ lines_with is_board before → AreFrom n (placed_cuts before cuts)
are_from n before [] low = tt
are_from n before (cut ∷ cuts) low =
    let grow = boards_grow before cut in
    onto_from n (counted before) (label_of_cut cut) (placed_cuts (before ++ (cut ∷ [])) cuts) low (are_from n (before ++ (cut ∷ [])) cuts (omega (arith, low, grow)))

weaker : (m n : ℕ) (ls : List Placed) → m ≤ n → AreUpTo m ls → AreUpTo n ls
weaker m n [] le h = tt
weaker m n (l ∷ ls) le h = (let low = h.0 in (omega (arith, low, le), weaker m n ls le h.1))

up_to_both : (n : ℕ) (xs ys : List Placed) → AreUpTo n xs → AreUpTo n ys → AreUpTo n (xs ++ ys)
up_to_both n [] ys h g = g
up_to_both n (x ∷ xs) ys h g = (h.0, up_to_both n xs ys h.1 g)

onto_up_to : (n : ℕ) (c : Context) (o : Option (List ℕ)) → c.boards ≤ n → AreUpTo n (onto_labels c o [])
onto_up_to n c None low = tt
onto_up_to n c (Some name) low = (low, tt)

are_up_to : (before : List Cut) → AreUpTo (lines_with is_board before) (placed_cuts [] before)
are_up_to before = from_left (λ (xs : List Cut). AreUpTo (lines_with is_board xs) (placed_cuts [] xs)) step [] before tt
  where
    step : (xs : List Cut) (x : Cut) → AreUpTo (lines_with is_board xs) (placed_cuts [] xs) → AreUpTo (lines_with is_board (xs ++ (x ∷ []))) (placed_cuts [] (xs ++ (x ∷ [])))
    step xs x h =
        let n : ℕ = lines_with is_board (xs ++ (x ∷ [])) in
        subst (AreUpTo n) (sym (placed_append [] xs (x ∷ [])))
        (up_to_both n (placed_cuts [] xs) (placed_cuts xs (x ∷ [])) (weaker (lines_with is_board xs) n (placed_cuts [] xs) (boards_grow xs x) h) (onto_up_to n (counted xs) (label_of_cut x) (boards_grow xs x)))

-- no label of another board is this board's
other_board : (n : ℕ) (name : List ℕ) (l : Placed) → (l.board ≡ n → ⊥) → is_label n name l ≡ false
other_board n name l apart = rw (ne_eqb l.board n apart) refl

none_from : (n : ℕ) (name : List ℕ) (ls : List Placed) → AreFrom (n + 1) ls → has_label ls n name ≡ false
none_from n name [] h = refl
none_from n name (l ∷ ls) h = (let low = h.0 in rw (other_board n name l (λ same. omega (arith, low, same))) (none_from n name ls h.1))

none_up_to : (n : ℕ) (name : List ℕ) (ls : List Placed) → AreUpTo n ls → has_label ls (n + 1) name ≡ false
none_up_to n name [] h = refl
none_up_to n name (l ∷ ls) h = (let low = h.0 in rw (other_board (n + 1) name l (λ same. omega (arith, low, same))) (none_up_to n name ls h.1))

-- ---- the labels of the board before a line

abbrev pub is_named : List ℕ → List ℕ → Bool
is_named name label = bytes_eq label name

abbrev pub are_named : List ℕ → List (List ℕ) → Bool
are_named name labels = list_any (is_named name) labels

own_label : (name : List ℕ) (c : Context) (o : Option (List ℕ)) → has_label (onto_labels c o []) c.boards name ≡ are_named name (cons_option o [])
own_label name c None = refl
own_label name c (Some label) = rw (eq-eqb c.boards c.boards refl) refl

boards_same : (before : List Cut) (cut : Cut) (t : Bool) → begins_board cut ≡ t → lines_with is_board (before ++ (cut ∷ [])) ≡ cond t (lines_with is_board before + 1) (lines_with is_board before)
boards_same before cut t e = lines_more is_board before cut ∙ by (sort_of_cut cut) t (lines_with is_board before) e
  where
    by : (o : Option Sort) (t : Bool) (n : ℕ) → begins_board_in o ≡ t → plus_by is_board o n ≡ cond t (n + 1) n
    by None true n e = absurd cc
    by None false n e = refl
    by (Some sort) t n e = rw e refl

labels_append : (xs ys : List Cut) (name : List ℕ) → are_named name (labels_on (xs ++ ys)) ≡ (are_named name (labels_on xs) || are_named name (labels_on ys))
labels_append xs ys name = ap (are_named name) (filter_map-append label_of_cut xs ys) ∙ list_any-append (is_named name) (labels_on xs) (labels_on ys)

HasBefore : List ℕ → List Cut → Type 0
HasBefore name before = has_label (placed_cuts [] before) (lines_with is_board before) name ≡ are_named name (labels_on (since_board before))

has_step : (name : List ℕ) (xs : List Cut) (x : Cut) → HasBefore name xs → HasBefore name (xs ++ (x ∷ []))
unfolding HasBefore
has_step name xs x h = by (begins_board x) refl
  where
    n : ℕ
    n = lines_with is_board xs

    last : List Placed
    last = onto_labels (counted xs) (label_of_cut x) []

    split : (m : ℕ) → has_label (placed_cuts [] (xs ++ (x ∷ []))) m name ≡ (has_label (placed_cuts [] xs) m name || has_label last m name)
    split m = ap (λ (ls : List Placed). has_label ls m name) (placed_append [] xs (x ∷ [])) ∙ list_any-append (is_label m name) (placed_cuts [] xs) last

    by : (t : Bool) → begins_board x ≡ t → has_label (placed_cuts [] (xs ++ (x ∷ []))) (lines_with is_board (xs ++ (x ∷ []))) name ≡ are_named name (labels_on (since_board (xs ++ (x ∷ []))))
    by true e =
        ap (λ (m : ℕ). has_label (placed_cuts [] (xs ++ (x ∷ []))) m name) (boards_same xs x true e)
        ∙ split (n + 1)
        ∙ ap (λ (t : Bool). t || has_label last (n + 1) name) (none_up_to n name (placed_cuts [] xs) (are_up_to xs))
        ∙ none_up_to n name last (onto_up_to n (counted xs) (label_of_cut x) (omega arith))
        ∙ ap (λ (cs : List Cut). are_named name (labels_on cs)) (sym (last_by true xs x e))
    by false e =
        ap (λ (m : ℕ). has_label (placed_cuts [] (xs ++ (x ∷ []))) m name) (boards_same xs x false e)
        ∙ split n
        ∙ ap (λ (t : Bool). t || has_label last n name) h
        ∙ ap (λ (t : Bool). are_named name (labels_on (since_board xs)) || t) (own_label name (counted xs) (label_of_cut x))
        ∙ sym (labels_append (since_board xs) (x ∷ []) name)
        ∙ ap (λ (cs : List Cut). are_named name (labels_on cs)) (sym (last_by false xs x e))

-- the labels of the board before a line are those of the lines since its `.board`
pub has_before : (name : List ℕ) (before : List Cut) → has_label (placed_cuts [] before) (lines_with is_board before) name ≡ are_named name (labels_on (since_board before))
unfolding HasBefore
has_before name before = from_left (HasBefore name) (has_step name) [] before refl

-- ---- the labels of the board from a line on

pub up_to_cons : (cut : Cut) (cuts : List Cut) (t : Bool) → begins_board cut ≡ t → up_to_board (cut ∷ cuts) ≡ cut ∷ cond t [] (up_to_board cuts)
up_to_cons cut cuts true e = (let none : position_or_len begins_board (cut ∷ cuts) + 1 ≡ 1 = rw e refl in ap (λ (n : ℕ). take n (cut ∷ cuts)) none)
up_to_cons cut cuts false e =
    let more : position_or_len begins_board (cut ∷ cuts) + 1 ≡ suc (position_or_len begins_board cuts + 1) = rw e (omega arith) in
    ap (λ (n : ℕ). take n (cut ∷ cuts)) more

onto_has : (n : ℕ) (name : List ℕ) (c : Context) (o : Option (List ℕ)) (ls : List Placed) → c.boards ≡ n → has_label (onto_labels c o ls) n name ≡ (are_named name (cons_option o []) || has_label ls n name)
onto_has n name c None ls e = refl
onto_has n name c (Some label) ls e = rw (eq-eqb c.boards n e) (last (bytes_eq label name) (has_label ls n name))
  where
    last : (a b : Bool) → (a || b) ≡ ((a || false) || b)
    last true b = refl
    last false b = refl

-- the labels of the board from a line on are those of the lines up to the next `.board`
pub has_from : (n : ℕ) (name : List ℕ) (before from : List Cut) → lines_with is_board before ≡ n → has_label (placed_cuts before from) n name ≡ are_named name (labels_on (up_to_board from))
has_from n name before [] e = refl
has_from n name before (cut ∷ cuts) e = by (begins_board cut) refl (λ same. has_from n name (before ++ (cut ∷ [])) cuts same)
  where
    rest : List Placed
    rest = placed_cuts (before ++ (cut ∷ [])) cuts

    both : (t : Bool) → has_label rest n name ≡ are_named name (labels_on (cond t [] (up_to_board cuts))) → begins_board cut ≡ t
        → has_label (placed_cuts before (cut ∷ cuts)) n name ≡ are_named name (labels_on (up_to_board (cut ∷ cuts)))
    both t h is =
        onto_has n name (counted before) (label_of_cut cut) rest e
        ∙ ap (λ (b : Bool). are_named name (cons_option (label_of_cut cut) []) || b) h
        ∙ sym (labels_append (cut ∷ []) (cond t [] (up_to_board cuts)) name)
        ∙ ap (λ (cs : List Cut). are_named name (labels_on cs)) (sym (up_to_cons cut cuts t is))

    by : (t : Bool) → begins_board cut ≡ t → (lines_with is_board (before ++ (cut ∷ [])) ≡ n → has_label rest n name ≡ are_named name (labels_on (up_to_board cuts)))
        → has_label (placed_cuts before (cut ∷ cuts)) n name ≡ are_named name (labels_on (up_to_board (cut ∷ cuts)))
    by true is h =
        let more = boards_same before cut true is in
        both true (none_from n name rest (are_from (n + 1) (before ++ (cut ∷ [])) cuts (omega (arith, more, e)))) is
    by false is h = both false (h (boards_same before cut false is ∙ e)) is

-- the labels of the board to which a line belongs
pub has_around : (name : List ℕ) (before from : List Cut) → has_label (placed_cuts [] (before ++ from)) (lines_with is_board before) name ≡ are_named name (labels_around before from)
has_around name before from =
    ap (λ (ls : List Placed). has_label ls (lines_with is_board before) name) (placed_append [] before from)
    ∙ list_any-append (is_label (lines_with is_board before) name) (placed_cuts [] before) (placed_cuts before from)
    ∙ ap (λ (t : Bool). t || has_label (placed_cuts before from) (lines_with is_board before) name) (has_before name before)
    ∙ ap (λ (t : Bool). are_named name (labels_on (since_board before)) || t) (has_from (lines_with is_board before) name before from refl)
    ∙ sym (labels_append (since_board before) (up_to_board from) name)

-- ---- names among labels

pub named_contained : (name : List ℕ) (labels : List (List ℕ)) → are_named name labels ≡ true → Contains labels name
named_contained name [] e = absurd cc
named_contained name (l ∷ labels) e = by (bytes_eq l name) refl e (named_contained name labels)
  where
    by : (t : Bool) → bytes_eq l name ≡ t → (t || are_named name labels) ≡ true → (are_named name labels ≡ true → Contains labels name) → Contains (l ∷ labels) name
    by true is e h = (0, omega arith, (bytes_eq-Decides l name).0 is)
    by false is e h = (let more = h e in let low = more.1 in (suc more.0, omega (arith, low), more.2))

pub contained_named : (name : List ℕ) (labels : List (List ℕ)) → Contains labels name → are_named name labels ≡ true
contained_named name labels c = at labels c.0 c.1 c.2
  where
    at : (labels : List (List ℕ)) (k : ℕ) → k < length labels → slice_index_or labels k name ≡ name → are_named name labels ≡ true
    at [] k low e = absurd (omega (arith, low))
    at (l ∷ labels) zero low e = rw ((bytes_eq-Decides l name).1 e) refl
    at (l ∷ labels) (suc k) low e = or_right (bytes_eq l name) (are_named name labels) (at labels k (omega (arith, low)) e)

-- ---- what the reader asks of the labels

has_if_placed : (all : List Placed) (board : ℕ) (name : List ℕ) (p : ℕ) → place_named all board name ≡ Some p → has_label all board name ≡ true
has_if_placed [] board name p e = absurd cc
has_if_placed (l ∷ all) board name p e = by (is_label board name l) e (has_if_placed all board name p)
  where
    by : (t : Bool) → cond t (Some l.place) (place_named all board name) ≡ Some p → (place_named all board name ≡ Some p → has_label all board name ≡ true) → (t || has_label all board name) ≡ true
    by true e h = refl
    by false e h = h e

placed_if_has : (all : List Placed) (board : ℕ) (name : List ℕ) → has_label all board name ≡ true → (p : ℕ) × (place_named all board name ≡ Some p)
placed_if_has [] board name e = absurd cc
placed_if_has (l ∷ all) board name e = by (is_label board name l) e (placed_if_has all board name)
  where
    by : (t : Bool) → (t || has_label all board name) ≡ true → (has_label all board name ≡ true → (p : ℕ) × (place_named all board name ≡ Some p)) → (p : ℕ) × (cond t (Some l.place) (place_named all board name) ≡ Some p)
    by true e h = (l.place, refl)
    by false e h = h e

mapped : (f : ℕ → ℤ) (o : Option ℕ) (i : ℤ) → option_map f o ≡ Some i → (p : ℕ) × (o ≡ Some p)
mapped f None i e = absurd cc
mapped f (Some p) i e = (p, refl)

pub targets_are : (before from : List Cut) → AreTargets (labels_around before from) (immediate_of (placed_cuts [] (before ++ from)) (counted before))
targets_are before from = record {
  contained = λ name i e. (
      let p = mapped (distance (counted before).codes) (place_named (placed_cuts [] (before ++ from)) (lines_with is_board before) name) i e in
      named_contained name (labels_around before from) (sym (has_around name before from) ∙ has_if_placed (placed_cuts [] (before ++ from)) (lines_with is_board before) name p.0 p.1));
  leads = λ name c. (
      let p = placed_if_has (placed_cuts [] (before ++ from)) (lines_with is_board before) name (has_around name before from ∙ contained_named name (labels_around before from) c) in
      (distance (counted before).codes p.0, ap (option_map (distance (counted before).codes)) p.1));
}

not_zero : (n : ℕ) → (n == 0) ≡ false → 0 < n
not_zero zero e = absurd cc
not_zero (suc n) e = omega arith

label_is_at : (z h : Bool) (before : List Cut) (name : List ℕ) (kind : AsmKind) → (lines_with is_board before == 0) ≡ z → are_named name (labels_on (since_board before)) ≡ h
    → (cond z (Some BadToken) (cond h (Some Twice) None) ≡ Some kind) ↔ LabelFault before (Some name) kind
label_is_at true h before name kind counted_as has = (
  λ e. inl (record { none = eqb-true (lines_with is_board before) 0 counted_as; kind_is = cc }),
  λ f. elim f [
    | inl early ↦ (let is = early.kind_is in rw is refl)
    | inr again ↦ absurd (let some = again.some in let none = eqb-true (lines_with is_board before) 0 counted_as in omega (arith, some, none))
  ],
)
label_is_at false true before name kind counted_as has = (
  λ e. inr (record { some = not_zero (lines_with is_board before) counted_as; again = named_contained name (labels_on (since_board before)) has; kind_is = cc }),
  λ f. elim f [
    | inl early ↦ absurd (both_ways (lines_with is_board before == 0) counted_as (eq-eqb (lines_with is_board before) 0 early.none))
    | inr again ↦ (let is = again.kind_is in rw is refl)
  ],
)
label_is_at false false before name kind counted_as has = (
  λ e. absurd cc,
  λ f. elim f [
    | inl early ↦ absurd (both_ways (lines_with is_board before == 0) counted_as (eq-eqb (lines_with is_board before) 0 early.none))
    | inr again ↦ absurd (both_ways (are_named name (labels_on (since_board before))) has (contained_named name (labels_on (since_board before)) again.again))
  ],
)

pub label_is : (before from : List Cut) (name : List ℕ) (kind : AsmKind) → (label_fault (placed_cuts [] (before ++ from)) (counted before) name ≡ Some kind) ↔ LabelFault before (Some name) kind
label_is before from name kind =
    let n : ℕ = lines_with is_board before in
    let has : has_label (take (counted before).labels (placed_cuts [] (before ++ from))) n name ≡ are_named name (labels_on (since_board before)) =
    ap (λ (ls : List Placed). has_label ls n name) (placed_before before from) ∙ has_before name before in
    let both = label_is_at (n == 0) (are_named name (labels_on (since_board before))) before name kind refl refl in (
      λ e. both.0 (ap (λ (t : Bool). cond (n == 0) (Some BadToken) (cond t (Some Twice) None)) (sym has) ∙ e),
      λ f. ap (λ (t : Bool). cond (n == 0) (Some BadToken) (cond t (Some Twice) None)) has ∙ both.1 f,
    )

-- what the reader carries agrees with the lines around, as they are cut
pub agrees : (before : List Cut) (cut : Cut) (behind : List Cut) → Agrees before cut behind (placed_cuts [] (before ++ (cut ∷ behind))) (counted before)
agrees before cut behind = record {
  counts = refl;
  label = label_is before (cut ∷ behind);
  targets = targets_are before (cut ∷ behind);
}
