-- The pieces of a line stand one behind the other.
use Rattle.std.proofs.Common.{◌≡◌, ◌∙◌, refl, ap, ℕ, zero, suc, ◌+◌, ◌<◌, ◌≤◌, List, [], ◌∷◌, ◌++◌, length, Some, arith, length-append}
use Rattle.std.specs.Prelude.{slice_get}
use Rattle.spur_asm.specs.Pieces.{Cut, HasPieces, IsCut, Piece}

-- a piece stands behind so many bytes and within the line
record IsWithin (at end : ℕ) (piece : Piece) : Type 0 where
  low : at ≤ piece.before
  high : piece.before < end

-- a piece and the bytes behind it
record Sizes (at : ℕ) (bytes rest : List ℕ) (piece : Piece) : Type 0 where
  low : at ≤ piece.before
  some : piece.before < piece.before + length piece.text
  end : piece.before + length piece.text + length rest ≡ at + length bytes

sizes : (piece : Piece) (pieces : List Piece) (at : ℕ) (bytes : List ℕ) → (h : HasPieces (piece ∷ pieces) at bytes) → Sizes at bytes h.rest piece
sizes piece pieces at bytes h =
    let p = h.is_piece in
    let stands = h.stands in
    let text : length piece.text ≡ suc (length p.more) = ap (λ (t : List ℕ). length t) p.is in
    let long : length bytes ≡ length h.gap + length (piece.text ++ h.rest) = ap (λ (bs : List ℕ). length bs) h.is ∙ length-append h.gap (piece.text ++ h.rest) in
    let more : length (piece.text ++ h.rest) ≡ length piece.text + length h.rest = length-append piece.text h.rest in
    record { low = omega (arith, stands); some = omega (arith, text); end = omega (arith, stands, long, more) }

same_some : (a b : Piece) → Some a ≡ Some b → a ≡ b
same_some a b e = cc

within_at : (pieces : List Piece) (at : ℕ) (bytes : List ℕ) → HasPieces pieces at bytes → (k : ℕ) (piece : Piece) → slice_get pieces k ≡ Some piece → IsWithin at (at + length bytes) piece
within_at [] at bytes h k piece e = absurd cc
within_at (first ∷ pieces) at bytes h zero piece e =
    let s = sizes first pieces at bytes h in
    let low = s.low in
    let some = s.some in
    let end = s.end in
    let same : first.before ≡ piece.before = ap (λ (p : Piece). p.before) (same_some first piece e) in
    record { low = omega (arith, low, same); high = omega (arith, same, some, end) }
within_at (first ∷ pieces) at bytes h (suc k) piece e =
    let s = sizes first pieces at bytes h in
    let low = s.low in
    let end = s.end in
    let rest = within_at pieces (first.before + length first.text) h.rest h.others k piece e in
    let rest_low = rest.low in
    let rest_high = rest.high in
    record { low = omega (arith, low, rest_low); high = omega (arith, rest_high, end) }

one_at : (pieces : List Piece) (at : ℕ) (bytes : List ℕ) → HasPieces pieces at bytes → (j k : ℕ) (one other : Piece) → slice_get pieces j ≡ Some one → slice_get pieces k ≡ Some other → one.before ≡ other.before → j ≡ k
one_at [] at bytes h j k one other e f same = absurd cc
one_at (first ∷ pieces) at bytes h zero zero one other e f same = refl
one_at (first ∷ pieces) at bytes h zero (suc k) one other e f same =
    let own : first.before ≡ one.before = ap (λ (p : Piece). p.before) (same_some first one e) in
    let some = (sizes first pieces at bytes h).some in
    let low = (within_at pieces (first.before + length first.text) h.rest h.others k other f).low in
    absurd (omega (arith, own, some, low, same))
one_at (first ∷ pieces) at bytes h (suc j) zero one other e f same =
    let own : first.before ≡ other.before = ap (λ (p : Piece). p.before) (same_some first other f) in
    let some = (sizes first pieces at bytes h).some in
    let low = (within_at pieces (first.before + length first.text) h.rest h.others j one e).low in
    absurd (omega (arith, own, some, low, same))
one_at (first ∷ pieces) at bytes h (suc j) (suc k) one other e f same =
    ap (λ (n : ℕ). suc n) (one_at pieces (first.before + length first.text) h.rest h.others j k one other e f same)

-- pieces that stand at one place are one
pub same_number : (line : List ℕ) (cut : Cut) → IsCut line cut → (j k : ℕ) (one other : Piece) → slice_get cut.pieces j ≡ Some one → slice_get cut.pieces k ≡ Some other → one.before ≡ other.before → j ≡ k
same_number line cut is j k one other e f same = one_at cut.pieces 0 is.body is.has_pieces j k one other e f same

-- a piece begins before the line's end
pub before_end : (line : List ℕ) (cut : Cut) → IsCut line cut → (k : ℕ) (piece : Piece) → slice_get cut.pieces k ≡ Some piece → piece.before < cut.end
before_end line cut is k piece e =
    let high = (within_at cut.pieces 0 is.body is.has_pieces k piece e).high in
    let end = is.ends in
    omega (arith, high, end)
