-- A board has completed no more instructions than its budget.
use Rattle.std.proofs.Common.{◌≡◌, ℕ, ◌+◌, ◌<◌, ◌≤◌, true, false, subst, refl, inl, inr, List, Option, Some, None, arith}
use Rattle.spur_flat.specs.declared.entry.Entry.{Entry}
use Rattle.spur_flat.specs.declared.entry.Entry.TheVariants.{Load, Store, Tas, Fault}
use Rattle.spur_cpu.specs.declared.cpu.Want.{Want}
use Rattle.spur_cpu.specs.declared.cpu.Want.TheVariants.{Access, Ended, Local}
use Rattle.spur_cpu.specs.Meaning.{Meaning}
use Rattle.spur_cpu.specs.After.{Course, Stop, begun, carry_want, is_done, retire, wants_local}
use Rattle.spur_cpu.proofs.Afters.{after_keeps, tested}
use Rattle.spur_cpu.proofs.Going.{local_going, none_left}
use Rattle.spur_cpu.proofs.Led.{faulted, passed}
use Rattle.spur_board.specs.BudgetLaw.{CompletesWithinBudget}

some_none : {why : Stop} → ◌≡◌ {A = Option Stop} (Some why) None → ⊥
some_none h = absurd cc

module _ {S : Type 0} (m : Meaning S) (segs : List ℕ) (budget : ℕ) where
  -- a board that has completed at most its budget, and less where it has no ending
  record IsWithin (c : Course S) (n : ℕ) : Type 0 where
    most : c.retired ≤ budget
    left : c.ending ≡ None → c.retired < budget

  retired_within : (c : Course S) (cpu : S) (k : ℕ) → c.ending ≡ None → IsWithin c k → IsWithin (retire m segs budget c cpu) (k + 1)
  retired_within c cpu k going h =
      let before = h.left going in
      record { most = omega arith; left = λ e. (let met = none_left (m.wants cpu) budget (c.retired + 1) e in omega arith) }

  done_within : (c d : Course S) (w : Want) (s : Option Stop) (e : Entry) (k : ℕ) → c.ending ≡ s → carry_want m segs budget c w s e ≡ Some d → is_done e ≡ true → IsWithin c k → IsWithin d (k + 1)
  done_within c d Local s e k is step q h = absurd cc
  done_within c d Ended s e k is step q h = absurd cc
  done_within c d (Access kind va value) (Some why) e k is step q h = absurd cc
  done_within c d (Access kind va value) None (Load board at v) k is step q h = subst (λ (x : Course S). IsWithin x (k + 1)) (passed _ _ d step) (retired_within c _ k is h)
  done_within c d (Access kind va value) None (Store board at v) k is step q h = subst (λ (x : Course S). IsWithin x (k + 1)) (passed _ _ d step) (retired_within c _ k is h)
  done_within c d (Access kind va value) None (Tas board at v) k is step q h = subst (λ (x : Course S). IsWithin x (k + 1)) (passed _ _ d step) (retired_within c _ k is h)
  done_within c d (Access kind va value) None e k is step q h = absurd cc

  fault_within : (c d : Course S) (w : Want) (s : Option Stop) (e : Entry) (k : ℕ) → carry_want m segs budget c w s e ≡ Some d → is_done e ≡ false → IsWithin c k → IsWithin d k
  fault_within c d Local s e k step q h = absurd cc
  fault_within c d Ended s e k step q h = absurd cc
  fault_within c d (Access kind va value) (Some why) e k step q h = absurd cc
  fault_within c d (Access kind va value) None (Load board at v) k step q h = absurd cc
  fault_within c d (Access kind va value) None (Store board at v) k step q h = absurd cc
  fault_within c d (Access kind va value) None (Tas board at v) k step q h = absurd cc
  fault_within c d (Access kind va value) None (Fault board fault access at) k step q h = elim (faulted _ _ _ _ d step) [
    | inl e ↦ subst (λ (x : Course S). IsWithin x k) e (record { most = h.most; left = λ n. absurd (some_none n) })
    | inr e ↦ subst (λ (x : Course S). IsWithin x k) e h
  ]
  fault_within c d (Access kind va value) None e k step q h = absurd cc

pub completes-within-budget : {S : Type 0} (m : Meaning S) → CompletesWithinBudget m
completes-within-budget {S} m segs budget s d es n some h = (after_keeps m segs budget (IsWithin m segs budget) record {
  local = λ c d k step p. subst (λ (x : Course S). IsWithin m segs budget x (k + 1)) (passed (wants_local m segs budget c) (retire m segs budget c (m.local c.cpu)) d step)
      (retired_within m segs budget c (m.local c.cpu) k (local_going m segs budget (m.wants c.cpu) c.ending (tested (wants_local m segs budget c) _ d step)) p);
  done = λ c d e k step q p. done_within m segs budget c d (m.wants c.cpu) c.ending e k refl step q p;
  fault = λ c d e k step q p. fault_within m segs budget c d (m.wants c.cpu) c.ending e k step q p;
} (begun s) d es n 0 (record { most = omega arith; left = λ e. some }) h).most
