-- Empty caches agree, and with every memory.
use Rattle.std.proofs.Common.{◌≡◌, ◌∙◌, ℕ, zero, suc, ◌≤◌, ap, sym, subst, List, length, replicate, slice_get, Option, Some, None}
use Rattle.std.proofs.lemmas.List.{length-replicate}
use Rattle.spur_cache.specs.declared.line.Line.{Line}
use Rattle.spur_snoop.specs.Size.{IsLineCount}
use Rattle.spur_cache.specs.Lines.{IsCache, line_at}
use Rattle.spur_bus.specs.Boards.{line_in}
use Rattle.spur_bus.specs.Agrees.{IsAt, EmptyAgree, EmptyServe}
use Rattle.spur_bus.proofs.LineFacts.{some_same}

-- n caches of k lines
abbrev pub empty : ℕ → ℕ → List (List (Option Line))
empty n k = replicate n (replicate k None)

none_at : (k s : ℕ) (l : Line) → line_at (replicate k None) s ≡ Some l → ⊥
none_at zero s l h = cc
none_at (suc k) zero l h = cc
none_at (suc k) (suc s) l h = none_at k s l h

no_line : (n k i s : ℕ) (l : Line) → line_in (empty n k) i s ≡ Some l → ⊥
no_line zero k i s l h = cc
no_line (suc n) k zero s l h = none_at k s l h
no_line (suc n) k (suc i) s l h = no_line n k i s l h

one_of : (n k i : ℕ) (lines : List (Option Line)) → slice_get (empty n k) i ≡ Some lines → replicate k None ≡ lines
one_of zero k i lines h = cc
one_of (suc n) k zero lines h = some_same (replicate k None) lines h
one_of (suc n) k (suc i) lines h = one_of n k i lines h

size : (n k i : ℕ) (lines : List (Option Line)) → slice_get (empty n k) i ≡ Some lines → length lines ≡ k
size n k i lines h = ap (λ (ls : List (Option Line)). length ls) (sym (one_of n k i lines h)) ∙ length-replicate k None

empty_cache : (k : ℕ) → IsLineCount k → IsCache (replicate k None)
empty_cache k count = record {
  count = subst (λ (m : ℕ). IsLineCount m) (sym (length-replicate k None)) count;
  placed = λ (s : ℕ) (l : Line) (there : line_at (replicate k None) s ≡ Some l). absurd (none_at k s l there);
  held = λ (s : ℕ) (l : Line) (there : line_at (replicate k None) s ≡ Some l). absurd (none_at k s l there);
}

pub agrees-empty : EmptyAgree
agrees-empty n k some few count = record {
  some_caches = subst (λ (m : ℕ). 1 ≤ m) (sym (length-replicate n (replicate k None))) some;
  few_caches = subst (λ (m : ℕ). m ≤ 12) (sym (length-replicate n (replicate k None))) few;
  each = λ (i : ℕ) (lines : List (Option Line)) (h : slice_get (empty n k) i ≡ Some lines). subst (λ (ls : List (Option Line)). IsCache ls) (one_of n k i lines h) (empty_cache k count);
  sizes = λ (i j : ℕ) (a b : List (Option Line)) (ha : slice_get (empty n k) i ≡ Some a) (hb : slice_get (empty n k) j ≡ Some b). size n k i a ha ∙ sym (size n k j b hb);
  one_frame = λ (i j s t : ℕ) (a b : Line) (ha : line_in (empty n k) i s ≡ Some a). absurd (no_line n k i s a ha);
  one_place = λ (i j s t : ℕ) (a b : Line) (ha : line_in (empty n k) i s ≡ Some a). absurd (no_line n k i s a ha);
  one_owner = λ (i j s t : ℕ) (a b : Line) (ha : line_in (empty n k) i s ≡ Some a). absurd (no_line n k i s a ha);
  exclusive = λ (i j s t : ℕ) (a b : Line) (ha : line_in (empty n k) i s ≡ Some a). absurd (no_line n k i s a ha);
}

pub serves-empty : EmptyServe
serves-empty n k memory = record {
  within = λ (i s : ℕ) (l : Line) (h : line_in (empty n k) i s ≡ Some l). absurd (no_line n k i s l h);
  words = λ (i s w : ℕ) (l : Line) (h : line_in (empty n k) i s ≡ Some l) (at : IsAt w l). absurd (no_line n k i s l h);
}
