-- One piece of entries and instructions after another.
use Rattle.std.proofs.Common.{◌≡◌, ℕ, zero, suc, ◌+◌, Bool, true, false, ◌⊎◌, inl, inr, List, [], ◌∷◌, ◌++◌, Option, Some, None, refl, sym, ap, ◌∙◌, subst, arith, append-nil, if◌then◌else◌}
use Rattle.std.specs.Prelude.{option_and_then}
use Rattle.spur_cpu.specs.Meaning.{Meaning}
use Rattle.spur_cpu.specs.declared.cpu.Want.{Want}
use Rattle.spur_cpu.specs.declared.cpu.Want.TheVariants.{Local, Access, Ended}
use Rattle.spur_cpu.specs.After.{Stop, Course, is_done, is_local, wants_local, carry_local, carry_want, carry_entry, after}
use Rattle.spur_flat.specs.declared.entry.Entry.{Entry}

pub bind_some : {A B : Type 0} (o : Option A) (f : A → Option B) (y : B) → option_and_then f o ≡ Some y → (x : A) × (o ≡ Some x) × (f x ≡ Some y)
bind_some None f y e = absurd cc
bind_some (Some x) f y e = (x, refl, e)

pub some_is : {A : Type 0} (x y : A) → Some x ≡ Some y → x ≡ y
some_is x y e = cc

pub at_zero : {A B : Type 0} (b : Bool) (o : Option A) (f : A → Option B) (y : B) → (if b then None else option_and_then f o) ≡ Some y → (b ≡ false) × ((x : A) × (o ≡ Some x) × (f x ≡ Some y))
at_zero true o f y e = absurd cc
at_zero false o f y e = (refl, bind_some o f y e)

chosen : {A B : Type 0} (b : Bool) (o : Option A) (f g : A → Option B) (y : B) → option_and_then (λ x. if b then f x else g x) o ≡ Some y
    → ((b ≡ true) × ((x : A) × (o ≡ Some x) × (f x ≡ Some y))) ⊎ ((b ≡ false) × ((x : A) × (o ≡ Some x) × (g x ≡ Some y)))
chosen true o f g y e = inl (refl, bind_some o f y e)
chosen false o f g y e = inr (refl, bind_some o g y e)

pub way : {A B : Type 0} (a b : Bool) (o p : Option A) (f g h : A → Option B) (y : B) → (if a then option_and_then f o else option_and_then (λ x. if b then g x else h x) p) ≡ Some y
    → ((x : A) × (o ≡ Some x) × (f x ≡ Some y)) ⊎ (((b ≡ true) × ((x : A) × (p ≡ Some x) × (g x ≡ Some y))) ⊎ ((b ≡ false) × ((x : A) × (p ≡ Some x) × (h x ≡ Some y))))
way true b o p f g h y e = inl (bind_some o f y e)
way false b o p f g h y e = inr (chosen b p g h y e)

pub tested : {A : Type 0} (b : Bool) (x y : A) → (if b then Some x else None) ≡ Some y → b ≡ true
tested true x y e = refl
tested false x y e = absurd cc

module _ {S : Type 0} (m : Meaning S) (segs : List ℕ) (budget : ℕ) where
  pub not_local : (c d : Course S) (w : Want) (s : Option Stop) (e : Entry) → carry_want m segs budget c w s e ≡ Some d → is_local m segs budget w s ≡ false
  not_local c d Local None e h = absurd cc
  not_local c d Local (Some s) e h = refl
  not_local c d (Access kind va value) s e h = refl
  not_local c d Ended s e h = refl

  -- a local instruction comes first
  pub after_local : (c d : Course S) (es : List Entry) (n : ℕ) → carry_local m segs budget c ≡ Some d → after m segs budget c es (suc n) ≡ after m segs budget d es n
  after_local c d [] n h = rw h refl
  after_local c d (e ∷ es) n h = let w : wants_local m segs budget c ≡ true = tested (wants_local m segs budget c) _ d h in
      ap (λ (b : Bool). if b then option_and_then (λ x. after m segs budget x (e ∷ es) n) (carry_local m segs budget c) else option_and_then (λ x. if is_done e then after m segs budget x es n else after m segs budget x es (suc n)) (carry_entry m segs budget c e)) w
      ∙ ap (λ (o : Option (Course S)). option_and_then (λ x. after m segs budget x (e ∷ es) n) o) h

  -- an answered access comes first
  pub after_done : (c d : Course S) (e : Entry) (es : List Entry) (n : ℕ) → carry_entry m segs budget c e ≡ Some d → is_done e ≡ true → after m segs budget c (e ∷ es) (suc n) ≡ after m segs budget d es n
  after_done c d e es n h done = let w : wants_local m segs budget c ≡ false = not_local c d (m.wants c.cpu) c.ending e h in
      ap (λ (b : Bool). if b then option_and_then (λ x. after m segs budget x (e ∷ es) n) (carry_local m segs budget c) else option_and_then (λ x. if is_done e then after m segs budget x es n else after m segs budget x es (suc n)) (carry_entry m segs budget c e)) w
      ∙ ap (λ (o : Option (Course S)). option_and_then (λ x. if is_done e then after m segs budget x es n else after m segs budget x es (suc n)) o) h
      ∙ ap (λ (b : Bool). if b then after m segs budget d es n else after m segs budget d es (suc n)) done

  -- a fault comes first
  pub after_fault : (c d : Course S) (e : Entry) (es : List Entry) (n : ℕ) → carry_entry m segs budget c e ≡ Some d → is_done e ≡ false → after m segs budget c (e ∷ es) n ≡ after m segs budget d es n
  after_fault c d e es zero h done =
      ap (λ (b : Bool). if b then None else option_and_then (λ x. after m segs budget x es zero) (carry_entry m segs budget c e)) done
      ∙ ap (λ (o : Option (Course S)). option_and_then (λ x. after m segs budget x es zero) o) h
  after_fault c d e es (suc n) h done = let w : wants_local m segs budget c ≡ false = not_local c d (m.wants c.cpu) c.ending e h in
      ap (λ (b : Bool). if b then option_and_then (λ x. after m segs budget x (e ∷ es) n) (carry_local m segs budget c) else option_and_then (λ x. if is_done e then after m segs budget x es n else after m segs budget x es (suc n)) (carry_entry m segs budget c e)) w
      ∙ ap (λ (o : Option (Course S)). option_and_then (λ x. if is_done e then after m segs budget x es n else after m segs budget x es (suc n)) o) h
      ∙ ap (λ (b : Bool). if b then after m segs budget d es n else after m segs budget d es (suc n)) done

  -- two pieces, one after the other
  pub after_append : (c d : Course S) (es fs : List Entry) (n k : ℕ) → after m segs budget c es n ≡ Some d → after m segs budget c (es ++ fs) (n + k) ≡ after m segs budget d fs k
  after_append c d [] fs zero k h =
      let none : zero + k ≡ k = omega arith in
      ap (after m segs budget c fs) none ∙ ap (λ (x : Course S). after m segs budget x fs k) (some_is c d h)
  after_append c d [] fs (suc n) k h =
      let b = bind_some (carry_local m segs budget c) (λ x. after m segs budget x [] n) d h in
      let more : suc n + k ≡ suc (n + k) = omega arith in
      ap (after m segs budget c fs) more ∙ after_local c b.0 fs (n + k) b.1 ∙ after_append b.0 d [] fs n k b.2
  after_append c d (e ∷ es) fs zero k h =
      let b = at_zero (is_done e) (carry_entry m segs budget c e) (λ x. after m segs budget x es zero) d h in
      let none : zero + k ≡ k = omega arith in
      ap (after m segs budget c (e ∷ (es ++ fs))) none ∙ after_fault c b.1.0 e (es ++ fs) k b.1.1 b.0
      ∙ sym (ap (after m segs budget b.1.0 (es ++ fs)) none) ∙ after_append b.1.0 d es fs zero k b.1.2
  after_append c d (e ∷ es) fs (suc n) k h =
      let more : suc n + k ≡ suc (n + k) = omega arith in
      elim (way (wants_local m segs budget c) (is_done e) (carry_local m segs budget c) (carry_entry m segs budget c e) (λ x. after m segs budget x (e ∷ es) n) (λ x. after m segs budget x es n) (λ x. after m segs budget x es (suc n)) d h) [
        | inl l ↦ ap (after m segs budget c (e ∷ (es ++ fs))) more ∙ after_local c l.0 (e ∷ (es ++ fs)) (n + k) l.1 ∙ after_append l.0 d (e ∷ es) fs n k l.2
        | inr (inl r) ↦ ap (after m segs budget c (e ∷ (es ++ fs))) more ∙ after_done c r.1.0 e (es ++ fs) (n + k) r.1.1 r.0 ∙ after_append r.1.0 d es fs n k r.1.2
        | inr (inr r) ↦ after_fault c r.1.0 e (es ++ fs) (suc n + k) r.1.1 r.0 ∙ after_append r.1.0 d es fs (suc n) k r.1.2
      ]

  -- a fact that each carried step keeps, with the count of completed instructions
  pub record IsKept (P : Course S → ℕ → Type 0) : Type 0 where
    pub local : (c d : Course S) (k : ℕ) → carry_local m segs budget c ≡ Some d → P c k → P d (k + 1)
    pub done : (c d : Course S) (e : Entry) (k : ℕ) → carry_entry m segs budget c e ≡ Some d → is_done e ≡ true → P c k → P d (k + 1)
    pub fault : (c d : Course S) (e : Entry) (k : ℕ) → carry_entry m segs budget c e ≡ Some d → is_done e ≡ false → P c k → P d k

  pub after_keeps : (P : Course S → ℕ → Type 0) → IsKept P → (c d : Course S) (es : List Entry) (n k : ℕ) → P c k → after m segs budget c es n ≡ Some d → P d (k + n)
  after_keeps P kept c d [] zero k p h =
      let none : k ≡ k + zero = omega arith in
      subst (λ (z : ℕ). P d z) none (subst (λ (x : Course S). P x k) (some_is c d h) p)
  after_keeps P kept c d [] (suc n) k p h =
      let b = bind_some (carry_local m segs budget c) (λ x. after m segs budget x [] n) d h in
      let more : k + 1 + n ≡ k + suc n = omega arith in
      subst (λ (z : ℕ). P d z) more (after_keeps P kept b.0 d [] n (k + 1) (kept.local c b.0 k b.1 p) b.2)
  after_keeps P kept c d (e ∷ es) zero k p h =
      let b = at_zero (is_done e) (carry_entry m segs budget c e) (λ x. after m segs budget x es zero) d h in
      after_keeps P kept b.1.0 d es zero k (kept.fault c b.1.0 e k b.1.1 b.0 p) b.1.2
  after_keeps P kept c d (e ∷ es) (suc n) k p h =
      let more : k + 1 + n ≡ k + suc n = omega arith in
      elim (way (wants_local m segs budget c) (is_done e) (carry_local m segs budget c) (carry_entry m segs budget c e) (λ x. after m segs budget x (e ∷ es) n) (λ x. after m segs budget x es n) (λ x. after m segs budget x es (suc n)) d h) [
        | inl l ↦ subst (λ (z : ℕ). P d z) more (after_keeps P kept l.0 d (e ∷ es) n (k + 1) (kept.local c l.0 k l.1 p) l.2)
        | inr (inl r) ↦ subst (λ (z : ℕ). P d z) more (after_keeps P kept r.1.0 d es n (k + 1) (kept.done c r.1.0 e k r.1.1 r.0 p) r.1.2)
        | inr (inr r) ↦ after_keeps P kept r.1.0 d es (suc n) k (kept.fault c r.1.0 e k r.1.1 r.0 p) r.1.2
      ]

  -- one more local instruction at the end
  pub one_local : (c d f : Course S) (es : List Entry) (n : ℕ) → after m segs budget c es n ≡ Some d → carry_local m segs budget d ≡ Some f → after m segs budget c es (n + 1) ≡ Some f
  one_local c d f es n h step = sym (ap (λ (xs : List Entry). after m segs budget c xs (n + 1)) (append-nil es)) ∙ after_append c d es [] n 1 h ∙ after_local d f [] 0 step

  -- one more entry at the end
  pub one_done : (c d f : Course S) (es : List Entry) (e : Entry) (n : ℕ) → after m segs budget c es n ≡ Some d → carry_entry m segs budget d e ≡ Some f → is_done e ≡ true → after m segs budget c (es ++ e ∷ []) (n + 1) ≡ Some f
  one_done c d f es e n h step done = after_append c d es (e ∷ []) n 1 h ∙ after_done d f e [] 0 step done

  pub one_fault : (c d f : Course S) (es : List Entry) (e : Entry) (n : ℕ) → after m segs budget c es n ≡ Some d → carry_entry m segs budget d e ≡ Some f → is_done e ≡ false → after m segs budget c (es ++ e ∷ []) n ≡ Some f
  one_fault c d f es e n h step done = let none : n + 0 ≡ n = omega arith in
      sym (ap (after m segs budget c (es ++ e ∷ [])) none) ∙ after_append c d es (e ∷ []) n 0 h ∙ after_fault d f e [] 0 step done
