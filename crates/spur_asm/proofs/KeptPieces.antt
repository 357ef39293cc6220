-- What a line that keeps the first pieces of another has in common with it.
use Rattle.std.proofs.Common.{◌≡◌, ◌∙◌, refl, sym, ap, ℕ, zero, suc, ◌+◌, ◌≤◌, Bool, true, false, cond, List, [], ◌∷◌, ◌++◌, take, drop, length, Option, Some, None, arith}
use Rattle.std.specs.Prelude.{slice_get}
use Rattle.std.specs.List.{cons_option}
use Rattle.std.specs.Option.{is_some}
use Rattle.std.proofs.lemmas.List.Elements.{filter_map-append}
use Rattle.spur_asm.specs.Counts.{begins_board, begins_board_in, first_sort, label_of_cut, label_text, labels_around, labels_before, labels_on, since_board, sort_of_cut, up_to_board}
use Rattle.spur_asm.specs.Pieces.{Cut, Piece, texts_of}
use Rattle.spur_asm.proofs.Continued.{texts}
use Rattle.spur_asm.proofs.LabelsAround.{up_to_cons}
use Rattle.spur_asm.proofs.LinesMade.{ends_of}

-- ---- pieces behind some first ones

-- m pieces behind these
abbrev pub count : List Piece → ℕ → ℕ
count [] m = m
count (h ∷ heads) m = suc (count heads m)

pub count_is : (heads : List Piece) (m : ℕ) → count heads m ≡ length heads + m
count_is [] m = omega arith
count_is (h ∷ heads) m = (let more = count_is heads m in omega (arith, more))

pub count_next : (heads : List Piece) (m : ℕ) → suc (count heads m) ≡ count heads (suc m)
count_next [] m = refl
count_next (h ∷ heads) m = ap (λ (n : ℕ). suc n) (count_next heads m)

pub take_count : (heads rest : List Piece) (m : ℕ) → take (count heads m) (heads ++ rest) ≡ heads ++ take m rest
take_count [] rest m = refl
take_count (h ∷ heads) rest m = ap (λ (ps : List Piece). h ∷ ps) (take_count heads rest m)

pub get_count : (heads rest : List Piece) (m : ℕ) → slice_get (heads ++ rest) (count heads m) ≡ slice_get rest m
get_count [] rest m = refl
get_count (h ∷ heads) rest m = get_count heads rest m

pub length_count : (heads rest : List Piece) → length (heads ++ rest) ≡ count heads (length rest)
length_count [] rest = refl
length_count (h ∷ heads) rest = ap (λ (n : ℕ). suc n) (length_count heads rest)

pub ends_count : (heads : List Piece) (name : Piece) (more : List Piece) (m at : ℕ) → ends_of (count heads (suc m)) at (heads ++ (name ∷ more)) ≡ ends_of m (name.before + length name.text) more
ends_count [] name more m at = refl
ends_count (h ∷ heads) name more m at = ends_count heads name more m (h.before + length h.text)

pub drop_heads : (heads rest : List Piece) → drop (length heads) (heads ++ rest) ≡ rest
drop_heads [] rest = refl
drop_heads (h ∷ heads) rest = drop_heads heads rest

-- ---- pieces that are kept

-- the rest behind the same first pieces
pub record IsKept (heads rest pieces : List Piece) (m : ℕ) : Type 0 where
  pub behind : List Piece
  pub are : pieces ≡ heads ++ behind
  pub same : take m behind ≡ take m rest

same_head : (a b : Piece) (xs ys : List Piece) → a ∷ xs ≡ b ∷ ys → (a ≡ b) × (xs ≡ ys)
same_head a b xs ys e = (cc, cc)

pub kept_behind : (heads rest pieces : List Piece) (m : ℕ) → take (count heads m) pieces ≡ take (count heads m) (heads ++ rest) → IsKept heads rest pieces m
kept_behind [] rest pieces m e = record { behind = pieces; are = refl; same = e }
kept_behind (h ∷ heads) rest [] m e = absurd cc
kept_behind (h ∷ heads) rest (p ∷ pieces) m e =
    let same = same_head p h (take (count heads m) pieces) (take (count heads m) (heads ++ rest)) e in
    let more = kept_behind heads rest pieces m same.1 in
    record { behind = more.behind; are = ap (λ (x : Piece). x ∷ pieces) same.0 ∙ ap (λ (ps : List Piece). h ∷ ps) more.are; same = more.same }

-- the same name at the front
pub record IsNamed (name : Piece) (more pieces : List Piece) (m : ℕ) : Type 0 where
  pub behind : List Piece
  pub are : pieces ≡ name ∷ behind
  pub same : take m behind ≡ take m more

pub kept_name : (name : Piece) (more pieces : List Piece) (m : ℕ) → take (suc m) pieces ≡ take (suc m) (name ∷ more) → IsNamed name more pieces m
kept_name name more [] m e = absurd cc
kept_name name more (p ∷ pieces) m e = (let same = same_head p name (take m pieces) (take m more) e in record { behind = pieces; are = ap (λ (x : Piece). x ∷ pieces) same.0; same = same.1 })

take_less : {X : Type 0} (j k : ℕ) (xs : List X) → j ≤ k → take j (take k xs) ≡ take j xs
take_less zero k xs low = refl
take_less (suc j) zero xs low = absurd (omega (arith, low))
take_less (suc j) (suc k) [] low = refl
take_less (suc j) (suc k) (x ∷ xs) low = ap (λ (ys : List _). x ∷ ys) (take_less j k xs (omega (arith, low)))

-- who keeps more keeps less
pub kept_less : (j k : ℕ) (xs ys : List Piece) → j ≤ k → take k ys ≡ take k xs → take j ys ≡ take j xs
kept_less j k xs ys low e = sym (take_less j k ys low) ∙ ap (λ (zs : List Piece). take j zs) e ∙ take_less j k xs low

-- ---- the label

label_shape : (text : List ℕ) (more : List (List ℕ)) → label_text (text ∷ more) ≡ cond (is_some (label_text (text ∷ more))) (Some text) None
label_shape text [] = refl
label_shape text (mark ∷ more) = by _
  where
    by : (t : Bool) → cond t (Some text) None ≡ cond (is_some (cond t (Some text) None)) (Some text) None
    by true = refl
    by false = refl

-- lines that begin with one piece, and both or neither with a label, begin with the same label
pub label_kept : (k : ℕ) (pieces others : List Piece) → take (suc k) others ≡ take (suc k) pieces → is_some (label_text (texts others)) ≡ is_some (label_text (texts pieces)) → label_text (texts others) ≡ label_text (texts pieces)
label_kept k [] [] e same = refl
label_kept k [] (o ∷ others) e same = absurd cc
label_kept k (p ∷ pieces) [] e same = absurd cc
label_kept k (p ∷ pieces) (o ∷ others) e same =
    let first = (same_head o p (take k others) (take k pieces) e).0 in
    label_shape o.text (texts others)
    ∙ ap (λ (t : Bool). cond t (Some o.text) None) same
    ∙ ap (λ (x : Piece). cond (is_some (label_text (texts (p ∷ pieces)))) (Some x.text) None) first
    ∙ sym (label_shape p.text (texts pieces))

-- ---- the statement behind the label

before_same : (cut other : Cut) → label_of_cut other ≡ label_of_cut cut → labels_before (texts_of other) ≡ labels_before (texts_of cut)
before_same cut other same = ap (λ (o : Option (List ℕ)). cond (is_some o) 2 0) same

pub statement_of_other : (cut other : Cut) (heads rest : List Piece) → labels_before (texts_of cut) ≡ length heads → label_of_cut other ≡ label_of_cut cut → other.pieces ≡ heads ++ rest
    → drop (labels_before (texts_of other)) other.pieces ≡ rest
statement_of_other cut other heads rest count same are =
    ap (λ (n : ℕ). drop n other.pieces) (before_same cut other same ∙ count) ∙ ap (λ (ps : List Piece). drop (length heads) ps) are ∙ drop_heads heads rest

drop_texts : (n : ℕ) (pieces : List Piece) → drop n (texts pieces) ≡ texts (drop n pieces)
drop_texts zero pieces = refl
drop_texts (suc n) [] = refl
drop_texts (suc n) (p ∷ pieces) = drop_texts n pieces

pub sort_is_of : (cut : Cut) (rest : List Piece) → drop (labels_before (texts_of cut)) cut.pieces ≡ rest → sort_of_cut cut ≡ first_sort (texts rest)
sort_is_of cut rest e = ap first_sort (drop_texts (labels_before (texts_of cut)) cut.pieces ∙ ap texts e)

-- ---- the labels around

around_by : (since r : List Cut) (cut : Cut) → labels_on (since ++ (cut ∷ r)) ≡ labels_on since ++ cons_option (label_of_cut cut) (labels_on r)
around_by since r cut = filter_map-append label_of_cut since (cut ∷ r)

around_is : (front : List Cut) (cut : Cut) (behind : List Cut) → labels_around front (cut ∷ behind) ≡ labels_on (since_board front) ++ cons_option (label_of_cut cut) (labels_on (cond (begins_board cut) [] (up_to_board behind)))
around_is front cut behind =
    ap (λ (cs : List Cut). labels_on (since_board front ++ cs)) (up_to_cons cut behind (begins_board cut) refl) ∙ around_by (since_board front) (cond (begins_board cut) [] (up_to_board behind)) cut

-- lines with the same label and the same sort of statement have the same labels around
pub around_same : (front : List Cut) (cut other : Cut) (behind : List Cut) → label_of_cut other ≡ label_of_cut cut → sort_of_cut other ≡ sort_of_cut cut → labels_around front (other ∷ behind) ≡ labels_around front (cut ∷ behind)
around_same front cut other behind label sort =
    around_is front other behind
    ∙ ap (λ (o : Option (List ℕ)). labels_on (since_board front) ++ cons_option o (labels_on (cond (begins_board other) [] (up_to_board behind)))) label
    ∙ ap (λ (s : Option _). labels_on (since_board front) ++ cons_option (label_of_cut cut) (labels_on (cond (begins_board_in s) [] (up_to_board behind)))) sort
    ∙ sym (around_is front cut behind)
