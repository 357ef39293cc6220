-- Boards are made one by one.
use Rattle.std.proofs.Common.{◌≡◌, ◌∙◌, ℕ, zero, suc, ap, sym, refl, subst, List, [], ◌∷◌, ◌++◌, length, Some, arith, ◌⊎◌, inl, inr}
use Rattle.std.specs.Prelude.{slice_get}
use Rattle.std.proofs.lemmas.List.{length-append}
use Rattle.std.proofs.lemmas.Option.{slice_get_within}
use Rattle.spur_board.specs.declared.board.Board.{Board}
use Rattle.spur_board.specs.Boards.{IsNew}
use Rattle.spur_core.specs.Begin.{AreNewBoards}

-- a member of a list with one more at its end: the last, or one of those before
got_snoc : {A : Type 0} (xs : List A) (x y : A) (i : ℕ) → slice_get (xs ++ x ∷ []) i ≡ Some y → ((i ≡ length xs) × (x ≡ y)) ⊎ (slice_get xs i ≡ Some y)
got_snoc [] x y zero e = inl (refl, cc)
got_snoc [] x y (suc i) e = absurd cc
got_snoc (z ∷ xs) x y zero e = inr e
got_snoc (z ∷ xs) x y (suc i) e = elim (got_snoc xs x y i e) [ inl t ↦ inl (ap suc t.0, t.1) | inr h ↦ inr h ]

pub new_more : {C : Type 0} (segs : List (List ℕ)) (lines budget : ℕ) (cpus : List C) (cpu : C) (boards more : List (Board C)) (b : Board C) → AreNewBoards segs lines budget cpus boards
    → ((registers : List ℕ) → slice_get segs (length cpus) ≡ Some registers → IsNew (length cpus) cpu registers lines budget b) → more ≡ boards ++ b ∷ [] → AreNewBoards segs lines budget (cpus ++ cpu ∷ []) more
new_more {C} segs lines budget cpus cpu boards more b all is added = subst (AreNewBoards segs lines budget (cpus ++ cpu ∷ [])) (sym added) record {
  count = (let e = all.count in let f = length-append boards (b ∷ []) in let g = length-append cpus (cpu ∷ []) in omega arith);
  each = λ i registers t x s e f. elim (got_snoc cpus cpu t i e) [
    | inl u ↦ elim (got_snoc boards b x i f) [
      | inl v ↦ (let here : slice_get segs (length cpus) ≡ Some registers = ap (slice_get segs) (sym u.0) ∙ s in
          subst (λ (z : ℕ × C × Board C). IsNew z.0 z.1 registers lines budget z.2) (λ k. (sym u.0 k, u.1 k, v.1 k)) (is registers here))
      | inr h ↦ absurd (let lt = slice_get_within boards i x h in let c = all.count in let q = u.0 in omega arith)
    ]
    | inr g ↦ elim (got_snoc boards b x i f) [
      | inl v ↦ absurd (let lt = slice_get_within cpus i t g in let c = all.count in let q = v.0 in omega arith)
      | inr h ↦ all.each i registers t x s g h
    ]
  ];
}
