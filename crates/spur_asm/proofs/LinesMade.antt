-- A line that keeps the first pieces of another and goes on with others, each behind a blank.
use Rattle.std.proofs.Common.{◌≡◌, refl, sym, subst, ℕ, zero, suc, ◌+◌, Bool, true, false, not, cond, List, [], ◌∷◌, ◌++◌, take, length, inl}
use Rattle.std.proofs.lemmas.Bool.{and_from, and_parts}
use Rattle.std.proofs.lemmas.List.{append-nil}
use Rattle.std.specs.List.{AllByRecursion, list_all}
use Rattle.spur_asm.specs.Bytes.{is_name_byte, is_name_start, is_number_byte, is_number_start, is_semicolon}
use Rattle.spur_asm.specs.Pieces.{Cut, EndsPiece, HasPieces, IsCut, IsPiece, Piece}

-- ---- texts, each behind a blank

abbrev pub spaced : List (List ℕ) → List ℕ
spaced [] = []
spaced (text ∷ texts) = 32 ∷ (text ++ spaced texts)

-- their pieces, behind so many bytes
abbrev pub pieces_at : ℕ → List (List ℕ) → List Piece
pieces_at at [] = []
pieces_at at (text ∷ texts) = record { before = at + 1; text = text } ∷ pieces_at (at + 1 + length text) texts

-- a text is a whole piece, and has no `;`
pub record IsWhole (text : List ℕ) : Type 0 where
  pub is_piece : IsPiece text []
  pub plain : list_all (λ b. not (is_semicolon b)) text ≡ true

-- no piece goes on with a blank
no_more : (s n : Bool) → cond s (is_name_byte 32) (cond n (is_number_byte 32) false) ≡ false
no_more true n = refl
no_more false true = refl
no_more false false = refl

ends_at_blank : (b : ℕ) (texts : List (List ℕ)) → EndsPiece b (spaced texts)
ends_at_blank b [] = tt
ends_at_blank b (text ∷ texts) = no_more (is_name_start b) (is_number_start b)

piece_before : (text rest : List ℕ) → IsPiece text [] → ((b : ℕ) → EndsPiece b rest) → IsPiece text rest
piece_before text rest p ends = record { first = p.first; more = p.more; is = p.is; solid = p.solid; whole = p.whole; ends = ends p.first }

spaced_pieces : (texts : List (List ℕ)) (at : ℕ) → AllByRecursion IsWhole texts → HasPieces (pieces_at at texts) at (spaced texts)
spaced_pieces [] at w = refl
spaced_pieces (text ∷ texts) at w = record {
  gap = 32 ∷ [];
  rest = spaced texts;
  is = refl;
  blank = refl;
  stands = refl;
  is_piece = piece_before text (spaced texts) w.0.is_piece (λ b. ends_at_blank b texts);
  others = spaced_pieces texts (at + 1 + length text) w.1;
}

abbrev pub is_plain_byte : ℕ → Bool
is_plain_byte b = not (is_semicolon b)

all_append : (p : ℕ → Bool) (xs ys : List ℕ) → list_all p xs ≡ true → list_all p ys ≡ true → list_all p (xs ++ ys) ≡ true
all_append p [] ys h g = g
all_append p (x ∷ xs) ys h g = (let parts = and_parts (p x) (list_all p xs) h in and_from (p x) (list_all p (xs ++ ys)) parts.0 (all_append p xs ys parts.1 g))

all_parts : (p : ℕ → Bool) (xs ys : List ℕ) → list_all p (xs ++ ys) ≡ true → (list_all p xs ≡ true) × (list_all p ys ≡ true)
all_parts p [] ys h = (refl, h)
all_parts p (x ∷ xs) ys h =
    let parts = and_parts (p x) (list_all p (xs ++ ys)) h in
    let more = all_parts p xs ys parts.1 in
    (and_from (p x) (list_all p xs) parts.0 more.0, more.1)

spaced_plain : (texts : List (List ℕ)) → AllByRecursion IsWhole texts → list_all is_plain_byte (spaced texts) ≡ true
spaced_plain [] w = refl
spaced_plain (text ∷ texts) w = all_append is_plain_byte text (spaced texts) w.0.plain (spaced_plain texts w.1)

-- ---- behind the first pieces of a line

-- where the first m of these pieces end
abbrev pub ends_of : ℕ → ℕ → List Piece → ℕ
ends_of zero at pieces = at
ends_of (suc m) at [] = at
ends_of (suc m) at (piece ∷ pieces) = ends_of m (piece.before + length piece.text) pieces

-- bytes with the first m of these pieces, and then these texts
pub record IsMade (m : ℕ) (pieces : List Piece) (texts : List (List ℕ)) (at : ℕ) (bytes : List ℕ) : Type 0 where
  pub made : List ℕ
  pub has_pieces : HasPieces (take m pieces ++ pieces_at (ends_of m at pieces) texts) at made
  pub plain : list_all is_plain_byte bytes ≡ true → list_all is_plain_byte made ≡ true
  pub begins : (b : ℕ) → EndsPiece b bytes → EndsPiece b made

begins_alike : (gap text rest made : List ℕ) (first : ℕ) (more : List ℕ) → text ≡ first ∷ more → (b : ℕ) → EndsPiece b (gap ++ (text ++ rest)) → EndsPiece b (gap ++ (text ++ made))
begins_alike [] text rest made first more is b h = (let same : EndsPiece b ((first ∷ more) ++ rest) = subst (λ (t : List ℕ). EndsPiece b (t ++ rest)) is h in subst (λ (t : List ℕ). EndsPiece b (t ++ made)) (sym is) same)
begins_alike (g ∷ gap) text rest made first more is b h = h

pub make : (m : ℕ) (pieces : List Piece) (texts : List (List ℕ)) (at : ℕ) (bytes : List ℕ) → AllByRecursion IsWhole texts → HasPieces pieces at bytes → IsMade m pieces texts at bytes
make zero pieces texts at bytes w h = record { made = spaced texts; has_pieces = spaced_pieces texts at w; plain = λ _. spaced_plain texts w; begins = λ b _. ends_at_blank b texts }
make (suc m) [] texts at bytes w h = record { made = spaced texts; has_pieces = spaced_pieces texts at w; plain = λ _. spaced_plain texts w; begins = λ b _. ends_at_blank b texts }
make (suc m) (piece ∷ pieces) texts at bytes w h =
    let behind = make m pieces texts (piece.before + length piece.text) h.rest w h.others in
    let p = h.is_piece in
    record {
      made = h.gap ++ (piece.text ++ behind.made);
      has_pieces = record {
        gap = h.gap;
        rest = behind.made;
        is = refl;
        blank = h.blank;
        stands = h.stands;
        is_piece = record { first = p.first; more = p.more; is = p.is; solid = p.solid; whole = p.whole; ends = behind.begins p.first p.ends };
        others = behind.has_pieces;
      };
      plain = λ e. (
          let whole : list_all is_plain_byte (h.gap ++ (piece.text ++ h.rest)) ≡ true = subst (λ (bs : List ℕ). list_all is_plain_byte bs ≡ true) h.is e in
          let first = all_parts is_plain_byte h.gap (piece.text ++ h.rest) whole in
          let second = all_parts is_plain_byte piece.text h.rest first.1 in
          all_append is_plain_byte h.gap (piece.text ++ behind.made) first.0 (all_append is_plain_byte piece.text behind.made second.0 (behind.plain second.1)));
      begins = λ b e. begins_alike h.gap piece.text h.rest behind.made p.first p.more p.is b (subst (EndsPiece b) h.is e);
    }

-- a line with the first m pieces of another, and then these texts, each behind a blank
pub record IsLineMade (m : ℕ) (cut : Cut) (texts : List (List ℕ)) : Type 0 where
  pub line : List ℕ
  pub other : Cut
  pub is_cut : IsCut line other
  pub pieces_are : other.pieces ≡ take m cut.pieces ++ pieces_at (ends_of m 0 cut.pieces) texts

pub make_line : (m : ℕ) (line : List ℕ) (cut : Cut) (texts : List (List ℕ)) → IsCut line cut → AllByRecursion IsWhole texts → IsLineMade m cut texts
make_line m line cut texts is w =
    let made = make m cut.pieces texts 0 is.body w is.has_pieces in
    record {
      line = made.made;
      other = record { pieces = take m cut.pieces ++ pieces_at (ends_of m 0 cut.pieces) texts; end = length made.made };
      is_cut = record { body = made.made; comment = []; is = sym (append-nil made.made); plain = made.plain is.plain; is_comment = inl refl; has_pieces = made.has_pieces; ends = refl };
      pieces_are = refl;
    }
