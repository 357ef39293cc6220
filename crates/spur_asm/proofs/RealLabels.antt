-- The labels of lines are names.
use Rattle.std.proofs.Common.{◌≡◌, refl, sym, ap, subst, ℕ, zero, suc, ◌<◌, Bool, true, false, not, ◌&&◌, cond, List, [], ◌∷◌, ◌++◌, map, take, drop, length, slice_index_or, Option, Some, None, IfSome, arith}
use Rattle.std.specs.Prelude.{codes}
use Rattle.std.proofs.lemmas.Bool.{and_parts}
use Rattle.std.specs.List.{AllByRecursion, AllZip, Contains, cons_option}
use Rattle.std.specs.Str.{bytes_eq}
use Rattle.spur_asm.specs.Counts.{is_name_text, label_of_cut, label_text, labels_around, labels_on, since_board, up_to_board}
use Rattle.spur_asm.specs.Lexeme.{Lexeme, lexemes_of}
use Rattle.spur_asm.specs.Pieces.{Cut, IsCut, Piece, texts_of}
use Rattle.spur_asm.specs.Spelling.{IsText}
use Rattle.spur_asm.specs.Token.{Name, is_dotted}
use Rattle.spur_asm.proofs.LineJudged.{name_read}
use Rattle.spur_asm.proofs.PieceCuts.{line_found}
use Rattle.spur_asm.proofs.PieceFacts.{AreFound}
use Rattle.spur_asm.proofs.PieceTokens.{piece_writes}

-- ---- the label with which texts begin

-- a label is the first of its texts, a name
pub record IsLabelled (texts : List (List ℕ)) (name : List ℕ) : Type 0 where
  pub mark : List ℕ
  pub more : List (List ℕ)
  pub are : texts ≡ name ∷ mark ∷ more
  pub is_name : is_name_text name ≡ true

pub labelled : (texts : List (List ℕ)) (name : List ℕ) → label_text texts ≡ Some name → IsLabelled texts name
labelled [] name e = absurd cc
labelled (one ∷ []) name e = absurd cc
labelled (one ∷ mark ∷ more) name e = by (is_name_text one && not (is_dotted one) && bytes_eq mark (codes ":")) refl e
  where
    by : (t : Bool) → (is_name_text one && not (is_dotted one) && bytes_eq mark (codes ":")) ≡ t → cond t (Some one) None ≡ Some name → IsLabelled (one ∷ mark ∷ more) name
    by false is e = absurd cc
    by true is e =
        let same : one ≡ name = cc in
        let first = (and_parts (is_name_text one && not (is_dotted one)) (bytes_eq mark (codes ":")) is).0 in
        let named = (and_parts (is_name_text one) (not (is_dotted one)) first).0 in
        record { mark = mark; more = more; are = ap (λ (t : List ℕ). t ∷ mark ∷ more) same; is_name = subst (λ (t : List ℕ). is_name_text t ≡ true) same named }

-- ---- the labels of real lines

abbrev pub IsReal : List ℕ → Type 0
IsReal name = IsText (Name name) name

abbrev HasReal : Cut → Type 0
HasReal cut = IfSome (label_of_cut cut) IsReal

first_text : (pieces : List Piece) (name mark : List ℕ) (more : List (List ℕ)) (end : ℕ) (last : Option Piece) (lexemes : List Lexeme) → map (λ piece. piece.text) pieces ≡ name ∷ mark ∷ more → AreFound end last lexemes pieces
    → is_name_text name ≡ true → IsReal name
first_text [] name mark more end last lexemes e found is = absurd cc
first_text (piece ∷ pieces) name mark more end last [] e found is = absurd found
first_text (piece ∷ pieces) name mark more end last (one ∷ lexemes) e found is =
    let same : piece.text ≡ name = cc in
    subst IsReal same (piece_writes piece.text (Name piece.text) found.0.is_piece (name_read piece.text (subst (λ (t : List ℕ). is_name_text t ≡ true) (sym same) is)))

pub cut_is_real : (line : List ℕ) (cut : Cut) → IsCut line cut → HasReal cut
cut_is_real line cut is = by (label_of_cut cut) refl
  where
    by : (o : Option (List ℕ)) → label_of_cut cut ≡ o → IfSome o IsReal
    by None e = tt
    by (Some name) e = (let l = labelled (texts_of cut) name e in first_text cut.pieces name l.mark l.more cut.end None (lexemes_of line) l.are (line_found line cut is) l.is_name)

pub cuts_are_real : (lines : List (List ℕ)) (cuts : List Cut) → AllZip IsCut lines cuts → AllByRecursion HasReal cuts
cuts_are_real [] [] z = tt
cuts_are_real [] (cut ∷ cuts) z = absurd z
cuts_are_real (line ∷ lines) [] z = absurd z
cuts_are_real (line ∷ lines) (cut ∷ cuts) z = (cut_is_real line cut z.0, cuts_are_real lines cuts z.1)

labels_are_real : (cuts : List Cut) → AllByRecursion HasReal cuts → AllByRecursion IsReal (labels_on cuts)
labels_are_real [] h = tt
labels_are_real (cut ∷ cuts) h = by (label_of_cut cut) h.0 (labels_are_real cuts h.1)
  where
    by : (o : Option (List ℕ)) → IfSome o IsReal → AllByRecursion IsReal (labels_on cuts) → AllByRecursion IsReal (cons_option o (labels_on cuts))
    by None h rest = rest
    by (Some name) h rest = (h, rest)

all_dropped : (P : Cut → Type 0) (n : ℕ) (cuts : List Cut) → AllByRecursion P cuts → AllByRecursion P (drop n cuts)
all_dropped P zero cuts h = h
all_dropped P (suc n) [] h = tt
all_dropped P (suc n) (cut ∷ cuts) h = all_dropped P n cuts h.1

all_taken : (P : Cut → Type 0) (n : ℕ) (cuts : List Cut) → AllByRecursion P cuts → AllByRecursion P (take n cuts)
all_taken P zero cuts h = tt
all_taken P (suc n) [] h = tt
all_taken P (suc n) (cut ∷ cuts) h = (h.0, all_taken P n cuts h.1)

all_joined : (P : Cut → Type 0) (xs ys : List Cut) → AllByRecursion P xs → AllByRecursion P ys → AllByRecursion P (xs ++ ys)
all_joined P [] ys h g = g
all_joined P (x ∷ xs) ys h g = (h.0, all_joined P xs ys h.1 g)

pub around_are_real : (front from : List Cut) → AllByRecursion HasReal front → AllByRecursion HasReal from → AllByRecursion IsReal (labels_around front from)
around_are_real front from h g = labels_are_real (since_board front ++ up_to_board from) (all_joined HasReal (since_board front) (up_to_board from) (all_dropped HasReal _ front h) (all_taken HasReal _ from g))

pub contained_is_real : (labels : List (List ℕ)) (name : List ℕ) → AllByRecursion IsReal labels → Contains labels name → IsReal name
contained_is_real labels name h c = at labels c.0 c.1 c.2 h
  where
    at : (labels : List (List ℕ)) (k : ℕ) → k < length labels → slice_index_or labels k name ≡ name → AllByRecursion IsReal labels → IsReal name
    at [] k low e h = absurd (omega (arith, low))
    at (l ∷ labels) zero low e h = subst IsReal e h.0
    at (l ∷ labels) (suc k) low e h = at labels k (omega (arith, low)) e h.1
