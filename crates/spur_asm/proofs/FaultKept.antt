-- The fault of a statement's fields rests on the pieces up to it and on none behind: a line that keeps them keeps the fault.
use Rattle.std.proofs.Common.{◌≡◌, ◌∙◌, refl, sym, ap, subst, ℕ, zero, suc, ◌+◌, ◌<◌, List, [], ◌∷◌, take, Option, Some, None, arith}
use Rattle.std.specs.Prelude.{slice_get}
use Rattle.spur_asm.specs.Pieces.{Piece}
use Rattle.spur_asm.specs.Shapes.{Field}
use Rattle.spur_asm.specs.Faults.{IsFaultOf, FieldsFault}
use Rattle.spur_asm.specs.declared.fault.AsmKind.{AsmKind}

got : {X : Type 0} (xs : List X) (m k : ℕ) → k < m → slice_get (take m xs) k ≡ slice_get xs k
got xs zero k low = absurd (omega (arith, low))
got [] (suc m) k low = refl
got (x ∷ xs) (suc m) zero low = refl
got (x ∷ xs) (suc m) (suc k) low = got xs m k (omega (arith, low))

same_at : {X : Type 0} (xs ys : List X) (m k : ℕ) → take m ys ≡ take m xs → k < m → slice_get ys k ≡ slice_get xs k
same_at xs ys m k e low = sym (got ys m k low) ∙ ap (λ (zs : List _). slice_get zs k) e ∙ got xs m k low

same_behind : (last : Piece) (xs ys : List Piece) (m k : ℕ) → take m ys ≡ take m xs → k < m → slice_get (last ∷ ys) k ≡ slice_get (last ∷ xs) k
same_behind last xs ys m zero e low = refl
same_behind last xs ys m (suc k) e low = same_at xs ys m k e (omega (arith, low))

-- a fault at a piece
pub fault_kept : (labels : List (List ℕ)) (fields : List Field) (last : Piece) (pieces other : List Piece) (end length : ℕ) (before : ℕ) (kind : AsmKind) (f : FieldsFault labels fields last pieces end before kind)
    → (piece : Piece) → slice_get pieces f.number ≡ Some piece → take (f.number + 1) other ≡ take (f.number + 1) pieces → FieldsFault labels fields last other length before kind
fault_kept labels fields last pieces other end length before kind f piece is same = record {
  number = f.number;
  so_far = λ k low. (let at = f.so_far k low in record {
    field = at.field;
    field_is = at.field_is;
    piece = at.piece;
    piece_is = same_at pieces other (f.number + 1) k same (omega (arith, low)) ∙ at.piece_is;
    behind = at.behind;
    behind_is = same_behind last pieces other (f.number + 1) k same (omega (arith, low)) ∙ at.behind_is;
    fits = at.fits;
    apart = at.apart;
  });
  here = rw (same_at pieces other (f.number + 1) f.number same (omega arith) ∙ is, same_behind last pieces other (f.number + 1) f.number same (omega arith))
      (by (slice_get fields f.number) (slice_get (last ∷ pieces) f.number) (subst (λ (o : Option Piece). IsFaultOf labels (slice_get fields f.number) o (slice_get (last ∷ pieces) f.number) end before kind) is f.here));
}
  where
    by : (field : Option Field) (behind : Option Piece) → IsFaultOf labels field (Some piece) behind end before kind → IsFaultOf labels field (Some piece) behind length before kind
    by None behind here = here
    by (Some field) (Some behind) here = here
    by (Some field) None here = absurd here
