-- Each line is cut into pieces in one way, and these are what the cursor finds.
use Rattle.std.proofs.Common.{◌≡◌, ℕ, zero, suc, ◌+◌, Bool, true, false, cond, List, [], ◌∷◌, ◌++◌, length, take, drop, None, refl, sym, ap, subst, ◌∙◌, arith, length-append}
use Rattle.std.proofs.lemmas.Bool.{and_from}
use Rattle.std.proofs.lemmas.List.{take-append-drop}
use Rattle.std.specs.List.{list_all, prefix_len, before_first}
use Rattle.spur_asm.specs.Bytes.{is_blank, is_name_byte, is_name_start, is_number_byte, is_number_start, is_semicolon}
use Rattle.spur_asm.specs.Lexeme.{lexemes_of, more_of}
use Rattle.spur_asm.specs.Pieces.{Piece, Cut, IsCut, HasPieces, EndsPiece}
use Rattle.spur_asm.proofs.CutLemmas.{Stops, front_taken, front_passes, front_stops}
use Rattle.spur_asm.proofs.TokenLemmas.{is_plain}
use Rattle.spur_asm.proofs.TokenLaw.{blank_has_no_more, comment_stops, comment_from}
use Rattle.spur_asm.proofs.PieceFacts.{AreFound, Ends, found_from, go, more_by}

-- ---- the cursor finds the pieces of a line

pub line_found : (line : List ℕ) (cut : Cut) → IsCut line cut → AreFound cut.end None (lexemes_of line) cut.pieces
line_found line cut c =
    let body : before_first is_semicolon (c.body ++ c.comment) ≡ c.body = front_taken is_plain c.body c.comment c.plain (comment_stops c.comment c.is_comment) in
    let ends = c.ends in
    rw (c.is, body) (found_from cut.pieces cut.end 0 false None c.body c.has_pieces (omega (arith, ends)) refl)

-- ---- each line has pieces

ends_by_name : (n : Bool) (rest : List ℕ) → Stops is_name_byte rest → Ends true n rest
ends_by_name n [] e = tt
ends_by_name n (c ∷ rest) e = e

ends_by_number : (rest : List ℕ) → Stops is_number_byte rest → Ends false true rest
ends_by_number [] e = tt
ends_by_number (c ∷ rest) e = e

ends_by_none : (rest : List ℕ) → Ends false false rest
ends_by_none [] = tt
ends_by_none (c ∷ rest) = refl

whole_by : (s n : Bool) (bytes : List ℕ) → list_all (go s n) (take (more_by s n bytes) bytes) ≡ true
whole_by true n bytes = front_passes is_name_byte bytes
whole_by false true bytes = front_passes is_number_byte bytes
whole_by false false bytes = refl

stops_by : (s n : Bool) (bytes : List ℕ) → Ends s n (drop (more_by s n bytes) bytes)
stops_by true n bytes = ends_by_name n (drop (prefix_len is_name_byte bytes) bytes) (front_stops is_name_byte bytes)
stops_by false true bytes = ends_by_number (drop (prefix_len is_number_byte bytes) bytes) (front_stops is_number_byte bytes)
stops_by false false bytes = ends_by_none bytes

ends_back : (b : ℕ) (rest : List ℕ) → Ends (is_name_start b) (is_number_start b) rest → EndsPiece b rest
ends_back b [] e = tt
ends_back b (c ∷ rest) e = e

-- the pieces behind the first n bytes, which a piece before has taken; before them stand `at` bytes
abbrev pub pieces_from : ℕ → ℕ → List ℕ → List Piece
pieces_from n at [] = []
pieces_from (suc n) at (b ∷ bytes) = pieces_from n (at + 1) bytes
pieces_from zero at (b ∷ bytes) = cond (is_blank b) (pieces_from (more_of b bytes) (at + 1) bytes) (record { before = at; text = b ∷ take (more_of b bytes) bytes } ∷ pieces_from (more_of b bytes) (at + 1) bytes)

moved : (pieces : List Piece) (m n : ℕ) (bytes : List ℕ) → m ≡ n → HasPieces pieces m bytes → HasPieces pieces n bytes
moved pieces m n bytes e h = subst (λ (k : ℕ). HasPieces pieces k bytes) e h

blank_first : (pieces : List Piece) (at : ℕ) (b : ℕ) (bytes : List ℕ) → is_blank b ≡ true → HasPieces pieces (at + 1) bytes → HasPieces pieces at (b ∷ bytes)
blank_first [] at b bytes blank h = and_from (is_blank b) (list_all is_blank bytes) blank h
blank_first (piece ∷ pieces) at b bytes blank h = let stands = h.stands in record {
  gap = b ∷ h.gap;
  rest = h.rest;
  is = ap (λ (bs : List ℕ). b ∷ bs) h.is;
  blank = and_from (is_blank b) (list_all is_blank h.gap) blank h.blank;
  stands = omega (arith, stands);
  is_piece = h.is_piece;
  others = h.others;
}

length_taken : (n : ℕ) (bytes : List ℕ) → n + length (drop n bytes) ≡ length bytes → length (take n bytes) ≡ n
length_taken n bytes e =
    let all : length (take n bytes) + length (drop n bytes) ≡ length bytes = sym (length-append (take n bytes) (drop n bytes)) ∙ ap (λ (bs : List ℕ). length bs) (take-append-drop n bytes) in
    omega (arith, all, e)

piece_first : (pieces : List Piece) (at : ℕ) (b : ℕ) (bytes : List ℕ) → is_blank b ≡ false
    → HasPieces pieces (at + (1 + length (take (more_of b bytes) bytes))) (drop (more_of b bytes) bytes)
    → HasPieces (record { before = at; text = b ∷ take (more_of b bytes) bytes } ∷ pieces) at (b ∷ bytes)
piece_first pieces at b bytes solid h = record {
  gap = [];
  rest = drop (more_of b bytes) bytes;
  is = ap (λ (bs : List ℕ). b ∷ bs) (sym (take-append-drop (more_of b bytes) bytes));
  blank = refl;
  stands = omega arith;
  is_piece = record {
    first = b;
    more = take (more_of b bytes) bytes;
    is = refl;
    solid = solid;
    whole = whole_by (is_name_start b) (is_number_start b) bytes;
    ends = ends_back b (drop (more_of b bytes) bytes) (stops_by (is_name_start b) (is_number_start b) bytes);
  };
  others = moved pieces _ _ _ (omega arith) h;
}

-- what is told of the bytes from the n-th on
abbrev Told : ℕ → ℕ → List ℕ → Type 0
Told n at bytes = HasPieces (pieces_from n at bytes) (at + length (take n bytes)) (drop n bytes)

first_by : (t : Bool) (at b : ℕ) (bytes : List ℕ) → is_blank b ≡ t → Told (more_of b bytes) (at + 1) bytes
    → HasPieces (cond t (pieces_from (more_of b bytes) (at + 1) bytes) (record { before = at; text = b ∷ take (more_of b bytes) bytes } ∷ pieces_from (more_of b bytes) (at + 1) bytes)) at (b ∷ bytes)
first_by true at b bytes blank h =
    let none : more_of b bytes ≡ 0 = blank_has_no_more b bytes blank in
    let here : HasPieces (pieces_from (more_of b bytes) (at + 1) bytes) (at + 1 + 0) bytes = subst (λ (n : ℕ). HasPieces (pieces_from (more_of b bytes) (at + 1) bytes) (at + 1 + length (take n bytes)) (drop n bytes)) none h in
    blank_first (pieces_from (more_of b bytes) (at + 1) bytes) at b bytes blank (moved (pieces_from (more_of b bytes) (at + 1) bytes) _ _ bytes (omega arith) here)
first_by false at b bytes blank h =
    piece_first (pieces_from (more_of b bytes) (at + 1) bytes) at b bytes blank (moved (pieces_from (more_of b bytes) (at + 1) bytes) _ _ _ (omega arith) h)

pieces_are : (bytes : List ℕ) (n at : ℕ) → Told n at bytes
pieces_are [] zero at = refl
pieces_are [] (suc n) at = refl
pieces_are (b ∷ bytes) (suc n) at = moved (pieces_from n (at + 1) bytes) _ _ _ (omega arith) (pieces_are bytes n (at + 1))
pieces_are (b ∷ bytes) zero at = moved (pieces_from 0 at (b ∷ bytes)) at (at + 0) (b ∷ bytes) (omega arith) (first_by (is_blank b) at b bytes refl (pieces_are bytes (more_of b bytes) (at + 1)))

abbrev pub cut_of : List ℕ → Cut
cut_of line = record { pieces = pieces_from 0 0 (before_first is_semicolon line); end = length (before_first is_semicolon line) }

pub line_is_cut : (line : List ℕ) → IsCut line (cut_of line)
line_is_cut line = record {
  body = before_first is_semicolon line;
  comment = drop (prefix_len is_plain line) line;
  is = sym (take-append-drop (prefix_len is_plain line) line);
  plain = front_passes is_plain line;
  is_comment = comment_from (drop (prefix_len is_plain line) line) (front_stops is_plain line);
  has_pieces = pieces_are (before_first is_semicolon line) 0 0;
  ends = refl;
}
