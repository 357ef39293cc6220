-- A board that is carried on to its next access.
use Rattle.std.proofs.Common.{◌≡◌, ℕ, zero, suc, ◌+◌, ◌-◌, ◌<◌, Bool, true, false, ◌⊎◌, inl, inr, List, ◌∷◌, Option, Some, None, refl, sym, ap, ◌∙◌, subst, arith, if◌then◌else◌}
use Rattle.spur_flat.specs.declared.entry.Entry.{Entry}
use Rattle.spur_flat.specs.declared.entry.Entry.TheVariants.{Load, Store, Tas, Fault}
use Rattle.spur_cpu.specs.Meaning.{Meaning}
use Rattle.spur_cpu.specs.declared.cpu.Want.{Want}
use Rattle.spur_cpu.specs.declared.cpu.Want.TheVariants.{Local, Access, Ended}
use Rattle.spur_cpu.specs.After.{Stop, Course, HasBudgetLeft, IsLed, after, carry_entry, carry_local, carry_want, is_done, retire, wants_local}
use Rattle.spur_cpu.specs.Onward.{EntriesFit, carry_locals, carry_to_access}
use Rattle.spur_cpu.specs.OnwardLaws.{EmptyFits, FitByTheNext, NextFits, ToAccessLeadsOn, WantsNoLocal}
use Rattle.spur_cpu.proofs.Afters.{after_done, after_fault, after_local, at_zero, not_local, tested, way}
use Rattle.spur_cpu.proofs.Going.{local_going, none_left}
use Rattle.spur_cpu.proofs.Led.{faulted, led_local, passed}

module _ {S : Type 0} (m : Meaning S) (segs : List ℕ) (budget : ℕ) where
  -- the board after its next local instruction
  abbrev pub local_done : Course S → Course S
  local_done c = retire m segs budget c (m.local c.cpu)

  local_is : (c : Course S) → wants_local m segs budget c ≡ true → carry_local m segs budget c ≡ Some (local_done c)
  local_is c h = ap (λ (b : Bool). if b then Some (local_done c) else None) h

  -- where no local instruction is wanted, none is done
  pub locals_stay : (n : ℕ) (c : Course S) → wants_local m segs budget c ≡ false → carry_locals m segs budget n c ≡ c
  locals_stay zero c h = refl
  locals_stay (suc n) c h = ap (λ (b : Bool). if b then carry_locals m segs budget n (local_done c) else c) h

  -- where one is wanted, it comes first
  pub locals_go : (n : ℕ) (c : Course S) → wants_local m segs budget c ≡ true → carry_locals m segs budget (suc n) c ≡ carry_locals m segs budget n (local_done c)
  locals_go n c h = ap (λ (b : Bool). if b then carry_locals m segs budget n (local_done c) else c) h

  -- a local instruction is done, or none is wanted
  local_or_none : (n : ℕ) (c : Course S) (b : Bool) → wants_local m segs budget c ≡ b
      → ((wants_local m segs budget c ≡ true) × (carry_locals m segs budget (suc n) c ≡ carry_locals m segs budget n (local_done c))) ⊎ ((wants_local m segs budget c ≡ false) × (carry_locals m segs budget (suc n) c ≡ c))
  local_or_none n c true h = inl (h, locals_go n c h)
  local_or_none n c false h = inr (h, locals_stay (suc n) c h)

  -- a fact that a local instruction keeps
  pub locals_keep : (P : Course S → Type 0) → ((c : Course S) → wants_local m segs budget c ≡ true → P c → P (local_done c))
      → (n : ℕ) (c : Course S) → P c → P (carry_locals m segs budget n c)
  locals_keep P kept zero c p = p
  locals_keep P kept (suc n) c p = elim (local_or_none n c (wants_local m segs budget c) refl) [
    | inl w ↦ subst P (sym w.1) (locals_keep P kept n (local_done c) (kept c w.0 p))
    | inr w ↦ subst P (sym w.1) p
  ]

  -- one completed instruction keeps what is left of the budget
  pub retired_left : (c : Course S) (s : S) → c.retired < budget → HasBudgetLeft budget (retire m segs budget c s)
  retired_left c s some e = let n = none_left (m.wants s) budget (c.retired + 1) e in omega arith

  pub local_left : (c : Course S) → wants_local m segs budget c ≡ true → HasBudgetLeft budget c → HasBudgetLeft budget (local_done c)
  local_left c w left = retired_left c (m.local c.cpu) (left (local_going m segs budget (m.wants c.cpu) c.ending w))

  pub access_left : (c : Course S) → HasBudgetLeft budget c → HasBudgetLeft budget (carry_to_access m segs budget c)
  access_left c left = locals_keep (HasBudgetLeft budget) local_left (budget - c.retired) c left

  -- a local instruction comes first of those to the next access
  local_first : (c : Course S) → HasBudgetLeft budget c → wants_local m segs budget c ≡ true → carry_to_access m segs budget c ≡ carry_to_access m segs budget (local_done c)
  local_first c left w =
      let some : c.retired < budget = left (local_going m segs budget (m.wants c.cpu) c.ending w) in
      let more : budget - c.retired ≡ suc (budget - (c.retired + 1)) = omega arith in
      ap (λ (n : ℕ). carry_locals m segs budget n c) more ∙ locals_go (budget - (c.retired + 1)) c w

  spent_wants : (c : Course S) (b : Bool) → budget - c.retired ≡ zero → HasBudgetLeft budget c → wants_local m segs budget c ≡ b → wants_local m segs budget c ≡ false
  spent_wants c true is left w = let some : c.retired < budget = left (local_going m segs budget (m.wants c.cpu) c.ending w) in absurd (omega arith)
  spent_wants c false is left w = w

  none_wanted : (n : ℕ) (c : Course S) → budget - c.retired ≡ n → HasBudgetLeft budget c → wants_local m segs budget (carry_locals m segs budget n c) ≡ false
  none_wanted zero c is left = spent_wants c (wants_local m segs budget c) is left refl
  none_wanted (suc n) c is left = elim (local_or_none n c (wants_local m segs budget c) refl) [
    | inl w ↦
        let some : c.retired < budget = left (local_going m segs budget (m.wants c.cpu) c.ending w.0) in
        let less : budget - (c.retired + 1) ≡ n = omega arith in
        ap (wants_local m segs budget) w.1 ∙ none_wanted n (local_done c) less (local_left c w.0 left)
    | inr w ↦ ap (wants_local m segs budget) w.1 ∙ w.0
  ]

  -- what is left of the budget after an entry
  want_left : (c d : Course S) (w : Want) (s : Option Stop) (e : Entry) → c.ending ≡ s → HasBudgetLeft budget c → carry_want m segs budget c w s e ≡ Some d → HasBudgetLeft budget d
  want_left c d Local s e is left h = absurd cc
  want_left c d Ended s e is left h = absurd cc
  want_left c d (Access kind va value) (Some s) e is left h = absurd cc
  want_left c d (Access kind va value) None (Load board at v) is left h = subst (HasBudgetLeft budget) (passed _ _ d h) (retired_left c _ (left is))
  want_left c d (Access kind va value) None (Store board at v) is left h = subst (HasBudgetLeft budget) (passed _ _ d h) (retired_left c _ (left is))
  want_left c d (Access kind va value) None (Tas board at v) is left h = subst (HasBudgetLeft budget) (passed _ _ d h) (retired_left c _ (left is))
  want_left c d (Access kind va value) None (Fault board k w at) is left h = elim (faulted _ _ _ _ d h) [
    | inl e ↦ subst (HasBudgetLeft budget) e (λ none. absurd cc)
    | inr e ↦ subst (HasBudgetLeft budget) e left
  ]
  want_left c d (Access kind va value) None e is left h = absurd cc

  pub entry_left : (c d : Course S) (e : Entry) → HasBudgetLeft budget c → carry_entry m segs budget c e ≡ Some d → HasBudgetLeft budget d
  entry_left c d e left h = want_left c d (m.wants c.cpu) c.ending e refl left h

  -- entries that fit behind the local instructions fit before them
  fit_before : (n : ℕ) (c : Course S) (es : List Entry) → EntriesFit m segs budget (carry_locals m segs budget n c) es → EntriesFit m segs budget c es
  fit_before zero c es f = f
  fit_before (suc n) c es f = elim (local_or_none n c (wants_local m segs budget c) refl) [
    | inl w ↦
        let later = fit_before n (local_done c) es (subst (λ (x : Course S). EntriesFit m segs budget x es) w.1 f) in
        record { completed = suc later.completed; course = later.course; leads = after_local m segs budget c (local_done c) es later.completed (local_is c w.0) ∙ later.leads }
    | inr w ↦ subst (λ (x : Course S). EntriesFit m segs budget x es) w.1 f
  ]

  -- an entry that carries a board on, and others that fit behind it
  fit_now : (b : Bool) (c d : Course S) (e : Entry) (es : List Entry) → is_done e ≡ b → carry_entry m segs budget c e ≡ Some d → EntriesFit m segs budget d es → EntriesFit m segs budget c (e ∷ es)
  fit_now true c d e es q h f = record { completed = suc f.completed; course = f.course; leads = after_done m segs budget c d e es f.completed h q ∙ f.leads }
  fit_now false c d e es q h f = record { completed = f.completed; course = f.course; leads = after_fault m segs budget c d e es f.completed h q ∙ f.leads }

  at_once : (c d : Course S) (e : Entry) (es : List Entry) → carry_entry m segs budget c e ≡ Some d → EntriesFit m segs budget d es → NextFits m segs budget c e es
  at_once c d e es h f =
      let none : carry_to_access m segs budget c ≡ c = locals_stay (budget - c.retired) c (not_local m segs budget c d (m.wants c.cpu) c.ending e h) in
      record { course = d; carried = ap (λ (x : Course S). carry_entry m segs budget x e) none ∙ h; fits = f }

  next_fits : (n : ℕ) (c d : Course S) (e : Entry) (es : List Entry) → HasBudgetLeft budget c → after m segs budget c (e ∷ es) n ≡ Some d → NextFits m segs budget c e es
  next_fits zero c d e es left h =
      let b = at_zero (is_done e) (carry_entry m segs budget c e) (λ x. after m segs budget x es zero) d h in
      at_once c b.1.0 e es b.1.1 record { completed = zero; course = d; leads = b.1.2 }
  next_fits (suc n) c d e es left h =
      elim (way (wants_local m segs budget c) (is_done e) (carry_local m segs budget c) (carry_entry m segs budget c e) (λ x. after m segs budget x (e ∷ es) n) (λ x. after m segs budget x es n) (λ x. after m segs budget x es (suc n)) d h) [
        | inl l ↦
            let w : wants_local m segs budget c ≡ true = tested (wants_local m segs budget c) _ l.0 l.1 in
            let is : local_done c ≡ l.0 = passed (wants_local m segs budget c) (local_done c) l.0 l.1 in
            let later = next_fits n (local_done c) d e es (local_left c w left) (ap (λ (x : Course S). after m segs budget x (e ∷ es) n) is ∙ l.2) in
            record { course = later.course; carried = ap (λ (x : Course S). carry_entry m segs budget x e) (local_first c left w) ∙ later.carried; fits = later.fits }
        | inr (inl r) ↦ at_once c r.1.0 e es r.1.1 record { completed = n; course = d; leads = r.1.2 }
        | inr (inr r) ↦ at_once c r.1.0 e es r.1.1 record { completed = suc n; course = d; leads = r.1.2 }
      ]

module _ {S : Type 0} (m : Meaning S) where
  pub wants-no-local : WantsNoLocal m
  wants-no-local segs budget c left = none_wanted m segs budget (budget - c.retired) c refl left

  pub to-access-leads-on : ToAccessLeadsOn m
  to-access-leads-on segs budget c d es h =
      locals_keep m segs budget (IsLed m segs budget c es) (λ x w l. led_local m segs budget c x (local_done m segs budget x) es l (local_is m segs budget x w)) (budget - d.retired) d h

  pub fit-by-the-next : FitByTheNext m
  fit-by-the-next segs budget c e es left = (
    λ f. next_fits m segs budget f.completed c f.course e es left f.leads,
    λ b. fit_before m segs budget (budget - c.retired) c (e ∷ es) (fit_now m segs budget (is_done e) (carry_to_access m segs budget c) b.course e es refl b.carried b.fits),
  )

  pub empty-fits : EmptyFits m
  empty-fits segs budget c = record { completed = zero; course = c; leads = refl }
