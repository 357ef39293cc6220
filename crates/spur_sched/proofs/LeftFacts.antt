-- How many picks a board may still take.
use Rattle.std.proofs.Common.{◌≡◌, ◌∙◌, ℕ, zero, suc, ◌+◌, ◌-◌, ◌*◌, ◌<◌, ◌≤◌, ◌||◌, Bool, true, false, ap, refl, List, [], ◌∷◌, length, map, Option, Some, None, arith, ◌⊎◌, inl, inr, ⊎_elim}
use Rattle.std.specs.Prelude.{is_some, slice_get}
use Rattle.std.proofs.Math.ListN.{set}
use Rattle.std.proofs.Math.Nat.{suc-mul}
use Rattle.spur_flat.specs.declared.entry.Entry.{Entry}
use Rattle.spur_cpu.specs.Meaning.{Meaning}
use Rattle.spur_cpu.specs.OnwardLaws.{IsStopped}
use Rattle.spur_cpu.proofs.Instructions.{instruction-is-one}
use Rattle.spur_board.specs.declared.board.Board.{Board}
use Rattle.spur_board.specs.declared.ending.Ending.{Ending}
use Rattle.spur_board.specs.declared.ending.Ending.TheVariants as ending
use Rattle.spur_board.specs.Boards.{course_ending}
use Rattle.spur_core.specs.Boards.{is_swapped}
use Rattle.spur_core.specs.Step.{Carried, Runner, Swapped, TakesInstruction, is_out, runner_of, runners_of}
use Rattle.spur_sched.specs.Picks.{are_out}

-- how many picks a board may still take: none where it has ended
abbrev pub left_if : Bool → ℕ → ℕ
left_if true n = 0
left_if false n = n + 1

abbrev pub left_of : {S : Type 0} → Runner S → ℕ
left_of r = left_if (is_out r) (r.budget - r.course.retired)

abbrev pub all_left : {S : Type 0} → List (Runner S) → ℕ
all_left [] = 0
all_left (r ∷ rs) = left_of r + all_left rs

module _ {S : Type 0} (m : Meaning S) where
  left_by : (r s : Runner S) (t : Bool) → is_out r ≡ false → r.course.retired < r.budget → s.budget ≡ r.budget → is_out s ≡ t → (s.course.retired ≡ r.course.retired + 1) ⊎ (is_out s ≡ true) → left_of s < left_of r
  left_by r s t going left budget out moved =
      let was : left_of r ≡ (r.budget - r.course.retired) + 1 = ap (λ (o : Bool). left_if o (r.budget - r.course.retired)) going in
      let now : left_of s ≡ left_if t (s.budget - s.course.retired) = ap (λ (o : Bool). left_if o (s.budget - s.course.retired)) out in
      by_out t now was moved out
    where
      by_out : (t : Bool) → left_of s ≡ left_if t (s.budget - s.course.retired) → left_of r ≡ (r.budget - r.course.retired) + 1 → (s.course.retired ≡ r.course.retired + 1) ⊎ (is_out s ≡ true) → is_out s ≡ t → left_of s < left_of r
      by_out true now was moved out = let n : left_of s ≡ 0 = now in omega arith
      by_out false now was (inl one) out = let n : left_of s ≡ (s.budget - s.course.retired) + 1 = now in omega arith
      by_out false now was (inr ends) out = absurd cc

  or_true : (a : Bool) → (a || true) ≡ true
  or_true true = refl
  or_true false = refl

  or_some : (a b : Bool) → a ≡ true → (a || b) ≡ true
  or_some true b h = refl
  or_some false b h = absurd cc

  -- a board that takes an instruction has less left
  less_left : (r s : Runner S) (es : List Entry) → TakesInstruction m r es s → is_out r ≡ false → r.course.retired < r.budget → left_of s < left_of r
  less_left r s es (Carried carried is) going left =
      left_by r s (is_out s) going left (ap (λ (q : Runner S). q.budget) is) refl
      (⊎_elim (λ h. inl h) (λ (stopped : IsStopped r.course s.course). inr (or_some (is_some s.course.ending) s.swapped (ap is_some stopped.ending)))
      (instruction-is-one m r.segs r.budget r.course s.course es carried).way)
  less_left r s es (Swapped faults e own served is) going left =
      left_by r s (is_out s) going left (ap (λ (q : Runner S). q.budget) is) refl (inr (ap is_out is ∙ or_true (is_some r.course.ending)))

  all_less : (rs : List (Runner S)) (b : ℕ) (r s : Runner S) → slice_get rs b ≡ Some r → left_of s < left_of r → all_left (set rs b s) < all_left rs
  all_less [] b r s at less = absurd cc
  all_less (q ∷ rs) zero r s at less = let same : q ≡ r = cc in let is : left_of q ≡ left_of r = ap left_of same in omega arith
  all_less (q ∷ rs) (suc b) r s at less = let rest = all_less rs b r s at less in omega arith

  pub taken_less : (rs : List (Runner S)) (b : ℕ) (r s : Runner S) (es : List Entry) → slice_get rs b ≡ Some r → TakesInstruction m r es s → is_out r ≡ false → r.course.retired < r.budget → all_left (set rs b s) < all_left rs
  taken_less rs b r s es at takes going left = all_less rs b r s at (less_left r s es takes going left)

left_few : (t : Bool) (budget retired : ℕ) → left_if t (budget - retired) ≤ budget + 1
left_few true budget retired = omega arith
left_few false budget retired = let r : (budget - retired) + 1 ≤ budget + 1 = omega arith in r

module _ {C S : Type 0} (m : Meaning S) (state : C → S) where
  pub board_out : (b : Board C) → is_out (runner_of m state b) ≡ is_some b.ended
  board_out b = by_end b.ended
    where
      by_end : (o : Option Ending) → (is_some (course_ending o) || is_swapped o) ≡ is_some o
      by_end None = refl
      by_end (Some ending.Halted) = refl
      by_end (Some (ending.Faulted kind at)) = refl
      by_end (Some ending.Spent) = refl
      by_end (Some ending.SwapFault) = refl

  pub outs_same : (bs : List (Board C)) → map is_out (runners_of m state bs) ≡ are_out bs
  outs_same [] = refl
  outs_same (b ∷ bs) = let rest = outs_same bs in λ k. board_out b k ∷ rest k

  -- at most one more than its budget is left of each board
  pub left_most : (budget : ℕ) (bs : List (Board C)) → ((i : ℕ) (b : Board C) → slice_get bs i ≡ Some b → b.budget ≡ budget) → all_left (runners_of m state bs) ≤ length bs * (budget + 1)
  left_most budget [] h = omega arith
  left_most budget (b ∷ bs) h =
      let rest = left_most budget bs (λ i c e. h (suc i) c e) in
      let one = left_few (is_out (runner_of m state b)) b.budget b.retired in
      let same = h 0 b refl in
      let product : suc (length bs) * (budget + 1) ≡ length bs * (budget + 1) + (budget + 1) = suc-mul (length bs) (budget + 1) in
      omega arith
