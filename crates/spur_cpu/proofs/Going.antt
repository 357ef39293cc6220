-- Where a board is on its way: what holds while it has no ending, and that it goes no further than its ending.
use Rattle.std.proofs.Common.{◌≡◌, ◌≢◌, ℕ, zero, suc, ◌+◌, ◌<◌, Bool, true, false, inl, inr, List, [], ◌∷◌, Option, Some, None, refl, sym, ap, subst, arith, if◌then◌else◌}
use Rattle.std.specs.Prelude.{◌==◌}
use Rattle.std.proofs.lemmas.Bool.Decides.{nat_tests}
use Rattle.spur_flat.specs.declared.access.FaultKind.{FaultKind}
use Rattle.spur_flat.specs.declared.entry.Entry.{Entry}
use Rattle.spur_flat.specs.declared.entry.Entry.TheVariants.{Load, Store, Tas, Fault}
use Rattle.spur_cpu.specs.Meaning.{IsLawful, Meaning}
use Rattle.spur_cpu.specs.declared.cpu.Want.{Want}
use Rattle.spur_cpu.specs.declared.cpu.Want.TheVariants.{Local, Access, Ended}
use Rattle.spur_cpu.specs.After.{Stop, Halted, Faulty, Course, after, begun, carry_entry, carry_local, carry_want, ending_at, is_done, is_local, retire, stop, wants_local}
use Rattle.spur_cpu.specs.Laws.{EndedUsesNothing, GoingOn, IsOnItsWay, UsesNothing}
use Rattle.spur_cpu.proofs.Afters.{after_keeps, at_zero, bind_some, some_is, tested, way}
use Rattle.spur_cpu.proofs.Led.{passed, faulted}

-- an ending that a completed instruction gives none, and what the others say
none_wants : (w : Want) (budget n : ℕ) → ending_at w budget n ≡ None → w ≢ Ended
none_wants Local budget n e q = absurd cc
none_wants (Access kind va value) budget n e q = absurd cc
none_wants Ended budget n e q = absurd cc

not_met : (n budget : ℕ) → (if n == budget then Some Rattle.spur_cpu.specs.After.Spent else None) ≡ None → n ≢ budget
not_met n budget e q = grind (arith, nat_tests, e, q)

pub none_left : (w : Want) (budget n : ℕ) → ending_at w budget n ≡ None → n ≢ budget
none_left Local budget n e = not_met n budget e
none_left (Access kind va value) budget n e = not_met n budget e
none_left Ended budget n e = absurd cc

spent_is : (b : Bool) (why : Stop) → (if b then Some Rattle.spur_cpu.specs.After.Spent else None) ≡ Some why → why ≡ Rattle.spur_cpu.specs.After.Spent
spent_is true why e = cc
spent_is false why e = absurd cc

halted_wants : (w : Want) (budget n : ℕ) → ending_at w budget n ≡ Some Halted → w ≡ Ended
halted_wants Local budget n e = let is = spent_is (n == budget) Halted e in absurd cc
halted_wants (Access kind va value) budget n e = let is = spent_is (n == budget) Halted e in absurd cc
halted_wants Ended budget n e = refl

never_faulty : (w : Want) (budget n : ℕ) (kind : FaultKind) (at : ℕ) → ending_at w budget n ≡ Some (Faulty kind at) → ⊥
never_faulty Local budget n kind at e = let is = spent_is (n == budget) (Faulty kind at) e in absurd cc
never_faulty (Access k va value) budget n kind at e = let is = spent_is (n == budget) (Faulty kind at) e in absurd cc
never_faulty Ended budget n kind at e = absurd cc

module _ {S : Type 0} (m : Meaning S) (segs : List ℕ) (budget : ℕ) where
  pub local_going : (w : Want) (s : Option Stop) → is_local m segs budget w s ≡ true → s ≡ None
  local_going Local None e = refl
  local_going Local (Some why) e = absurd cc
  local_going (Access kind va value) s e = absurd cc
  local_going Ended s e = absurd cc

  pub entry_going : (c d : Course S) (w : Want) (s : Option Stop) (e : Entry) → carry_want m segs budget c w s e ≡ Some d → s ≡ None
  entry_going c d Local s e h = absurd cc
  entry_going c d Ended s e h = absurd cc
  entry_going c d (Access kind va value) None e h = refl
  entry_going c d (Access kind va value) (Some why) e h = absurd cc

  no_local : (c d : Course S) (why : Stop) → c.ending ≡ Some why → carry_local m segs budget c ≡ Some d → ⊥
  no_local c d why h step = let none = local_going (m.wants c.cpu) c.ending (tested (wants_local m segs budget c) _ d step) in absurd cc

  no_entry : (c d : Course S) (why : Stop) (e : Entry) → c.ending ≡ Some why → carry_entry m segs budget c e ≡ Some d → ⊥
  no_entry c d why e h step = let none = entry_going c d (m.wants c.cpu) c.ending e step in absurd cc

  pub uses_nothing : (c d : Course S) (es : List Entry) (n : ℕ) (why : Stop) → c.ending ≡ Some why → after m segs budget c es n ≡ Some d → UsesNothing m c d es n
  uses_nothing c d [] zero why h r = record { course = sym (some_is c d r); entries = refl; completed = refl }
  uses_nothing c d [] (suc n) why h r =
      let b = bind_some (carry_local m segs budget c) (λ x. after m segs budget x [] n) d r in
      absurd (no_local c b.0 why h b.1)
  uses_nothing c d (e ∷ es) zero why h r =
      let b = at_zero (is_done e) (carry_entry m segs budget c e) (λ x. after m segs budget x es zero) d r in
      absurd (no_entry c b.1.0 why e h b.1.1)
  uses_nothing c d (e ∷ es) (suc n) why h r =
      elim (way (wants_local m segs budget c) (is_done e) (carry_local m segs budget c) (carry_entry m segs budget c e) (λ x. after m segs budget x (e ∷ es) n) (λ x. after m segs budget x es n) (λ x. after m segs budget x es (suc n)) d r) [
        | inl l ↦ absurd (no_local c l.0 why h l.1)
        | inr (inl r) ↦ absurd (no_entry c r.1.0 why e h r.1.1)
        | inr (inr r) ↦ absurd (no_entry c r.1.0 why e h r.1.1)
      ]

  -- what a completed instruction keeps
  retired_on : (c : Course S) (cpu : S) (k : ℕ) → c.ending ≡ None → IsOnItsWay m budget c k → IsOnItsWay m budget (retire m segs budget c cpu) (k + 1)
  retired_on c cpu k going h = record {
    counted = ap (λ (n : ℕ). n + 1) h.counted;
    wants = λ e. none_wants (m.wants cpu) budget (c.retired + 1) e;
    left = λ e. (let met = none_left (m.wants cpu) budget (c.retired + 1) e in let before = h.left going in omega arith);
    halted = λ e. halted_wants (m.wants cpu) budget (c.retired + 1) e;
    faulted = λ kind at e. absurd (never_faulty (m.wants cpu) budget (c.retired + 1) kind at e);
  }

  module _ (lawful : IsLawful m) where
    -- and a fault that ends the board
    stopped_on : (c : Course S) (kind : FaultKind) (at k : ℕ) → IsOnItsWay m budget c k → IsOnItsWay m budget (stop m segs budget c kind at) k
    stopped_on c kind at k h = record {
      counted = h.counted;
      wants = λ e. absurd cc;
      left = λ e. absurd cc;
      halted = λ e. absurd cc;
      faulted = λ other there e. lawful.faulted c.cpu kind;
    }

    local_on : (c d : Course S) (k : ℕ) → carry_local m segs budget c ≡ Some d → IsOnItsWay m budget c k → IsOnItsWay m budget d (k + 1)
    local_on c d k step h =
        let going = local_going (m.wants c.cpu) c.ending (tested (wants_local m segs budget c) _ d step) in
        subst (λ (x : Course S). IsOnItsWay m budget x (k + 1)) (passed (wants_local m segs budget c) (retire m segs budget c (m.local c.cpu)) d step) (retired_on c (m.local c.cpu) k going h)

    done_on : (c d : Course S) (w : Want) (s : Option Stop) (e : Entry) (k : ℕ) → c.ending ≡ s → carry_want m segs budget c w s e ≡ Some d → is_done e ≡ true → IsOnItsWay m budget c k → IsOnItsWay m budget d (k + 1)
    done_on c d Local s e k is step q h = absurd cc
    done_on c d Ended s e k is step q h = absurd cc
    done_on c d (Access kind va value) (Some why) e k is step q h = absurd cc
    done_on c d (Access kind va value) None (Load board at v) k is step q h = subst (λ (x : Course S). IsOnItsWay m budget x (k + 1)) (passed _ _ d step) (retired_on c _ k is h)
    done_on c d (Access kind va value) None (Store board at v) k is step q h = subst (λ (x : Course S). IsOnItsWay m budget x (k + 1)) (passed _ _ d step) (retired_on c _ k is h)
    done_on c d (Access kind va value) None (Tas board at v) k is step q h = subst (λ (x : Course S). IsOnItsWay m budget x (k + 1)) (passed _ _ d step) (retired_on c _ k is h)
    done_on c d (Access kind va value) None e k is step q h = absurd cc

    fault_on : (c d : Course S) (w : Want) (s : Option Stop) (e : Entry) (k : ℕ) → carry_want m segs budget c w s e ≡ Some d → is_done e ≡ false → IsOnItsWay m budget c k → IsOnItsWay m budget d k
    fault_on c d Local s e k step q h = absurd cc
    fault_on c d Ended s e k step q h = absurd cc
    fault_on c d (Access kind va value) (Some why) e k step q h = absurd cc
    fault_on c d (Access kind va value) None (Load board at v) k step q h = absurd cc
    fault_on c d (Access kind va value) None (Store board at v) k step q h = absurd cc
    fault_on c d (Access kind va value) None (Tas board at v) k step q h = absurd cc
    fault_on c d (Access kind va value) None (Fault board fault access at) k step q h = elim (faulted _ _ _ _ d step) [
      | inl e ↦ subst (λ (x : Course S). IsOnItsWay m budget x k) e (stopped_on c fault at k h)
      | inr e ↦ subst (λ (x : Course S). IsOnItsWay m budget x k) e h
    ]
    fault_on c d (Access kind va value) None e k step q h = absurd cc

    on_its_way : (s : S) (d : Course S) (es : List Entry) (n : ℕ) → 0 < budget → m.wants s ≢ Ended → after m segs budget (begun s) es n ≡ Some d → IsOnItsWay m budget d n
    on_its_way s d es n some wants h = let count : 0 + n ≡ n = omega arith in subst (IsOnItsWay m budget d) count (after_keeps m segs budget (IsOnItsWay m budget) record {
      local = local_on;
      done = λ c d e k step q h. done_on c d (m.wants c.cpu) c.ending e k refl step q h;
      fault = λ c d e k step q h. fault_on c d (m.wants c.cpu) c.ending e k step q h;
    } (begun s) d es n 0 record {
      counted = refl;
      wants = λ e. wants;
      left = λ e. some;
      halted = λ e. absurd cc;
      faulted = λ kind at e. absurd cc;
    } h)

pub ended-uses-nothing : {S : Type 0} (m : Meaning S) → EndedUsesNothing m
ended-uses-nothing m segs budget c d es n why h r = uses_nothing m segs budget c d es n why h r

pub going-on : {S : Type 0} (m : Meaning S) → IsLawful m → GoingOn m
going-on m lawful segs budget s d es n some wants h = on_its_way m segs budget lawful s d es n some wants h
