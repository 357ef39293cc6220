-- The counts over the lines before are what the reader carries.
use Rattle.std.proofs.Common.{◌≡◌, ℕ, zero, suc, ◌+◌, ◌-◌, ◌≤◌, Bool, true, false, not, cond, List, [], ◌∷◌, ◌++◌, map, reverse, drop, length, Option, Some, None, Result, Ok, Err, refl, sym, ap, ◌∙◌, arith, length-append}
use Rattle.std.proofs.lemmas.List.{reverse-append}
use Rattle.std.proofs.lemmas.List.Elements.{filter_map-append}
use Rattle.std.proofs.lemmas.List.Sums.{sum_by-append}
use Rattle.std.specs.List.{count_by, filter_map, prefix_len, suffix_len}
use Rattle.std.specs.Option.{is_some}
use Rattle.spur_asm.specs.Context.{behind_label, leading_label, next_context, sort_in, sort_of_token, with_label, with_sort}
use Rattle.spur_asm.specs.Counts.{begins_board, begins_board_in, counted, first_sort, is_board, is_code, is_name_text, is_page, is_seg, is_word_sort, label_of_cut, labels_on, lines_with, since_board, sort_of_cut}
use Rattle.spur_asm.specs.Lexeme.{Lexeme, lexemes_of}
use Rattle.spur_asm.specs.Names.{sort_named}
use Rattle.spur_asm.specs.Pieces.{Piece, Cut, IsCut, IsPiece, texts_of}
use Rattle.spur_asm.specs.Token.{Token, Name, Number, Mark}
use Rattle.spur_asm.specs.declared.fault.AsmKind.{AsmKind}
use Rattle.spur_asm.specs.declared.statement.Context.{Context}
use Rattle.spur_asm.specs.declared.statement.Sort.{Sort}
use Rattle.spur_asm.specs.declared.statement.Sort.TheVariants.{Page, Word, Board, Seg, Code}
use Rattle.spur_asm.proofs.LineJudged.{behind_found, label_found, name_read, no_name}
use Rattle.spur_asm.proofs.PieceCuts.{line_found}
use Rattle.spur_asm.proofs.PieceFacts.{AreFound, token_of_text}

-- ---- one line more

abbrev pub plus_by : (Sort → Bool) → Option Sort → ℕ → ℕ
plus_by p None n = n
plus_by p (Some sort) n = cond (p sort) (n + 1) n

counted_more : (p : Sort → Bool) (xs : List Sort) (o : Option Sort) (ys : List Sort) → ys ≡ filter_map (λ (x : Option Sort). x) (o ∷ []) → count_by p (xs ++ ys) ≡ plus_by p o (count_by p xs)
counted_more p xs None ys e = rw e (sum_by-append (λ x. cond (p x) 1 0) xs [] ∙ nothing (count_by p xs))
  where
    nothing : (n : ℕ) → n + 0 ≡ n
    nothing n = omega arith
counted_more p xs (Some sort) ys e = rw e (sum_by-append (λ x. cond (p x) 1 0) xs (sort ∷ []) ∙ by (p sort) (count_by p xs))
  where
    by : (t : Bool) (n : ℕ) → n + (0 + cond t 1 0) ≡ cond t (n + 1) n
    by true n = omega arith
    by false n = omega arith

one_sort : (cut : Cut) (o : Option Sort) → sort_of_cut cut ≡ o → filter_map sort_of_cut (cut ∷ []) ≡ filter_map (λ (x : Option Sort). x) (o ∷ [])
one_sort cut o e = rw e refl

pub lines_more : (p : Sort → Bool) (lines : List Cut) (cut : Cut) → lines_with p (lines ++ cut ∷ []) ≡ plus_by p (sort_of_cut cut) (lines_with p lines)
lines_more p lines cut =
    ap (count_by p) (filter_map-append sort_of_cut lines (cut ∷ [])) ∙ counted_more p (filter_map sort_of_cut lines) (sort_of_cut cut) (filter_map sort_of_cut (cut ∷ [])) (one_sort cut (sort_of_cut cut) refl)

drop_whole : {X : Type 0} (xs : List X) (n : ℕ) → n ≡ length xs → drop n xs ≡ []
drop_whole [] zero e = refl
drop_whole [] (suc n) e = refl
drop_whole (x ∷ xs) zero e = absurd (omega (arith, e))
drop_whole (x ∷ xs) (suc n) e = drop_whole xs n (omega (arith, e))

drop_front : {X : Type 0} (xs ys : List X) (n : ℕ) → n ≤ length xs → drop n (xs ++ ys) ≡ drop n xs ++ ys
drop_front xs ys zero e = refl
drop_front [] ys (suc n) e = absurd (omega (arith, e))
drop_front (x ∷ xs) ys (suc n) e = drop_front xs ys n (omega (arith, e))

abbrev others : Cut → Bool
others cut = not (begins_board cut)

pub last_by : (t : Bool) (lines : List Cut) (cut : Cut) → begins_board cut ≡ t → since_board (lines ++ cut ∷ []) ≡ cond t [] (since_board lines ++ cut ∷ [])
last_by t lines cut e = by t e
  where
    back : reverse (lines ++ cut ∷ []) ≡ cut ∷ reverse lines
    back = reverse-append lines (cut ∷ [])

    long : length (lines ++ cut ∷ []) ≡ length lines + 1
    long = length-append lines (cut ∷ [])

    by : (t : Bool) → begins_board cut ≡ t → since_board (lines ++ cut ∷ []) ≡ cond t [] (since_board lines ++ cut ∷ [])
    by true e =
        let none : suffix_len others (lines ++ cut ∷ []) ≡ 0 = ap (prefix_len others) back ∙ rw e refl in
        drop_whole (lines ++ cut ∷ []) (length (lines ++ cut ∷ []) - suffix_len others (lines ++ cut ∷ [])) (omega (arith, none))
    by false e =
        let more : suffix_len others (lines ++ cut ∷ []) ≡ 1 + suffix_len others lines = ap (prefix_len others) back ∙ rw e refl in
        let same : length (lines ++ cut ∷ []) - suffix_len others (lines ++ cut ∷ []) ≡ length lines - suffix_len others lines = omega (arith, more, long) in
        ap (λ (n : ℕ). drop n (lines ++ cut ∷ [])) same ∙ drop_front lines (cut ∷ []) (length lines - suffix_len others lines) (omega arith)

abbrev since_by : (Sort → Bool) → Option Sort → ℕ → ℕ
since_by p o n = cond (begins_board_in o) 0 (plus_by p o n)

since_more : (p : Sort → Bool) (lines : List Cut) (cut : Cut) → lines_with p (since_board (lines ++ cut ∷ [])) ≡ since_by p (sort_of_cut cut) (lines_with p (since_board lines))
since_more p lines cut = ap (lines_with p) (last_by (begins_board cut) lines cut refl) ∙ by (begins_board cut)
  where
    by : (t : Bool) → lines_with p (cond t [] (since_board lines ++ cut ∷ [])) ≡ cond t 0 (plus_by p (sort_of_cut cut) (lines_with p (since_board lines)))
    by true = refl
    by false = lines_more p (since_board lines) cut

abbrev label_by : Option (List ℕ) → ℕ → ℕ
label_by None n = n
label_by (Some name) n = n + 1

labels_more : (lines : List Cut) (cut : Cut) → length (labels_on (lines ++ cut ∷ [])) ≡ label_by (label_of_cut cut) (length (labels_on lines))
labels_more lines cut = ap (λ (ls : List (List ℕ)). length ls) (filter_map-append label_of_cut lines (cut ∷ [])) ∙ by (label_of_cut cut) (filter_map label_of_cut (cut ∷ [])) (one (label_of_cut cut) refl)
  where
    one : (o : Option (List ℕ)) → label_of_cut cut ≡ o → filter_map label_of_cut (cut ∷ []) ≡ filter_map (λ (x : Option (List ℕ)). x) (o ∷ [])
    one o e = rw e refl

    by : (o : Option (List ℕ)) (ys : List (List ℕ)) → ys ≡ filter_map (λ (x : Option (List ℕ)). x) (o ∷ []) → length (labels_on lines ++ ys) ≡ label_by o (length (labels_on lines))
    by None ys e = length-append (labels_on lines) ys ∙ rw e (omega arith)
    by (Some name) ys e = length-append (labels_on lines) ys ∙ rw e (omega arith)

-- the counts behind one more line
pub counted_next : (lines : List Cut) (cut : Cut) → counted (lines ++ cut ∷ []) ≡ with_sort (sort_of_cut cut) (with_label (label_of_cut cut) (counted lines))
counted_next lines cut =
    rw (lines_more is_page lines cut, lines_more is_word_sort lines cut, lines_more is_board lines cut, since_more is_seg lines cut, since_more is_code lines cut, labels_more lines cut)
    (by (sort_of_cut cut) (label_of_cut cut) (counted lines))
  where
    by : (o : Option Sort) (l : Option (List ℕ)) (c : Context)
        → record { pages = plus_by is_page o c.pages; words = plus_by is_word_sort o c.words; boards = plus_by is_board o c.boards; segs = since_by is_seg o c.segs; codes = since_by is_code o c.codes; labels = label_by l c.labels }
        ≡ with_sort o (with_label l c)
    by None None c = refl
    by None (Some name) c = refl
    by (Some Page) None c = refl
    by (Some Page) (Some name) c = refl
    by (Some Word) None c = refl
    by (Some Word) (Some name) c = refl
    by (Some Board) None c = refl
    by (Some Board) (Some name) c = refl
    by (Some Seg) None c = refl
    by (Some Seg) (Some name) c = refl
    by (Some (Code operation)) None c = refl
    by (Some (Code operation)) (Some name) c = refl

-- ---- the reader's line

sort_is : (text : List ℕ) → IsPiece text [] → (n : Bool) → is_name_text text ≡ n → sort_of_token (token_of_text text) ≡ cond n (sort_named text) None
sort_is text p true e = rw (name_read text e) refl
sort_is text p false e = other (token_of_text text) (no_name text p e)
  where
    other : (r : Result Token AsmKind) → ((name : List ℕ) → r ≡ Ok (Name name) → ⊥) → sort_of_token r ≡ None
    other (Ok (Name name)) none = absurd (none name refl)
    other (Ok (Number z)) none = refl
    other (Ok (Mark m)) none = refl
    other (Err k) none = refl

sort_found : (end : ℕ) (last : Option Piece) (pieces : List Piece) (lexemes : List Lexeme) → AreFound end last lexemes pieces → sort_in lexemes ≡ first_sort (map (λ piece. piece.text) pieces)
sort_found end last [] [] found = refl
sort_found end last [] (one ∷ lexemes) found = absurd found
sort_found end last (p ∷ pieces) [] found = absurd found
sort_found end last (p ∷ pieces) (one ∷ lexemes) found = rw found.0.token_is (sort_is p.text found.0.is_piece (is_name_text p.text) refl)

drop_map : {X Y : Type 0} (f : X → Y) (n : ℕ) (xs : List X) → map f (drop n xs) ≡ drop n (map f xs)
drop_map f zero xs = refl
drop_map f (suc n) [] = refl
drop_map f (suc n) (x ∷ xs) = drop_map f n xs

-- what the reader carries behind a line is the counts with the line
pub next_counted : (line : List ℕ) (cut : Cut) (lines : List Cut) → IsCut line cut → next_context (counted lines) line ≡ counted (lines ++ cut ∷ [])
next_counted line cut lines is =
    let found = line_found line cut is in
    let label : leading_label (lexemes_of line) ≡ label_of_cut cut = label_found cut.end None cut.pieces (lexemes_of line) found in
    let b = behind_found cut.end None cut.pieces (lexemes_of line) (leading_label (lexemes_of line)) found refl in
    let sort : sort_in (behind_label (lexemes_of line)) ≡ sort_of_cut cut =
    sort_found cut.end b.last (drop (cond (is_some (leading_label (lexemes_of line))) 2 0) cut.pieces) (behind_label (lexemes_of line)) b.found
    ∙ ap first_sort (drop_map (λ piece. piece.text) (cond (is_some (leading_label (lexemes_of line))) 2 0) cut.pieces)
    ∙ ap (λ (l : Option (List ℕ)). first_sort (drop (cond (is_some l) 2 0) (texts_of cut))) label in
    ap (λ (l : Option (List ℕ)). with_sort (sort_in (behind_label (lexemes_of line))) (with_label l (counted lines))) label
    ∙ ap (λ (o : Option Sort). with_sort o (with_label (label_of_cut cut) (counted lines))) sort
    ∙ sym (counted_next lines cut)
