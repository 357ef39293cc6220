-- With each fault that is served fewer are left, and its kind is past.
use Rattle.std.proofs.Common.{◌≡◌, ◌∙◌, ℕ, ◌+◌, ◌<◌, ◌≤◌, ◌&&◌, Bool, true, false, ap, sym, refl, subst, List, [], get_or, Option, arith}
use Rattle.spur_addr.specs.PageEntry.{is_dirty, is_leaving, is_referenced, is_valid}
use Rattle.spur_cache.specs.declared.line.Line.{Line}
use Rattle.spur_flat.specs.declared.access.FaultKind.{FaultKind}
use Rattle.spur_flat.specs.declared.access.FaultKind.TheVariants as fault
use Rattle.spur_flat.specs.declared.flat.Flat.{Flat}
use Rattle.spur_flat.specs.Pager.{word_of}
use Rattle.spur_walk.specs.Bounds.{steps_left}
use Rattle.spur_walk.proofs.FallFacts.{steps-fall}
use Rattle.spur_walk.proofs.StepFacts.{same_flat}
use Rattle.spur_pager.specs.Stand.{flat_in}
use Rattle.spur_pager.specs.Faults.{IsPastBy, IsPastOf, MovedFalls, PastIsNoFault, ServedFaultFalls, SteppedKeepsFaults, faults_by_bits, faults_by_word, one_if_clear}
use Rattle.spur_pager.proofs.AgainFacts.{step-has-stepped}
use Rattle.spur_pager.proofs.BitFacts.{After, AfterLeaving, AfterMissing, AfterReference, AfterDirty, Faults, OfDirty, OfLeaving, OfMissing, OfReference, fault_bits, served_bits}

-- the number by other bits that are the same
pub same_faults : (v l r d v1 l1 r1 d1 : Bool) → v ≡ v1 → l ≡ l1 → r ≡ r1 → d ≡ d1 → faults_by_bits v l r d ≡ faults_by_bits v1 l1 r1 d1
same_faults v l r d v1 l1 r1 d1 hv hl hr hd =
    ap (λ (x : Bool). faults_by_bits x l r d) hv ∙ ap (λ (x : Bool). faults_by_bits v1 x r d) hl ∙ ap (λ (x : Bool). faults_by_bits v1 l1 x d) hr ∙ ap (λ (x : Bool). faults_by_bits v1 l1 r1 x) hd

pub one_most : (b : Bool) → one_if_clear b ≤ 1
one_most true = omega arith
one_most false = omega arith

fewer : (v l r d v1 l1 r1 d1 : Bool) (kind : FaultKind) → Faults v l r d kind → After v l r d v1 l1 r1 d1 kind → faults_by_bits v1 l1 r1 d1 < faults_by_bits v l r d
fewer v l r d v1 l1 r1 d1 fault.Missing (OfMissing hv) (AfterMissing av al) =
    let was : faults_by_bits v l r d ≡ 3 = same_faults v l r d false l r d hv refl refl refl in
    let now : faults_by_bits v1 l1 r1 d1 ≡ one_if_clear r1 + one_if_clear d1 = same_faults v1 l1 r1 d1 true false r1 d1 av al refl refl in
    let r_most : one_if_clear r1 ≤ 1 = one_most r1 in
    let d_most : one_if_clear d1 ≤ 1 = one_most d1 in
    omega arith
fewer v l r d v1 l1 r1 d1 fault.Leaving (OfLeaving hv hl) (AfterLeaving av) =
    let was : faults_by_bits v l r d ≡ 4 = same_faults v l r d true true r d hv hl refl refl in
    let now : faults_by_bits v1 l1 r1 d1 ≡ 3 = same_faults v1 l1 r1 d1 false l1 r1 d1 av refl refl refl in
    omega arith
fewer v l r d v1 l1 r1 d1 fault.Reference (OfReference hv hl hr) (AfterReference av al ad ar) =
    let was : faults_by_bits v l r d ≡ 1 + one_if_clear d = same_faults v l r d true false false d hv hl hr refl in
    let now : faults_by_bits v1 l1 r1 d1 ≡ 0 + one_if_clear d = same_faults v1 l1 r1 d1 true false true d (av ∙ hv) (al ∙ hl) ar ad in
    omega arith
fewer v l r d v1 l1 r1 d1 fault.Dirty (OfDirty hv hl hd) (AfterDirty av al ar ad) =
    let was : faults_by_bits v l r d ≡ one_if_clear r + 1 = same_faults v l r d true false r false hv hl refl hd in
    let now : faults_by_bits v1 l1 r1 d1 ≡ one_if_clear r + 0 = same_faults v1 l1 r1 d1 true false r true (av ∙ hv) (al ∙ hl) ar ad in
    omega arith
fewer v l r d v1 l1 r1 d1 fault.Align h k = elim h [ ]
fewer v l r d v1 l1 r1 d1 fault.Unmapped h k = elim h [ ]
fewer v l r d v1 l1 r1 d1 fault.Protection h k = elim h [ ]

set_by_served : (v l r d v1 l1 r1 d1 : Bool) (kind : FaultKind) → Faults v l r d kind → After v l r d v1 l1 r1 d1 kind → IsPastBy kind v1 l1 r1 d1
set_by_served v l r d v1 l1 r1 d1 fault.Missing (OfMissing hv) (AfterMissing av al) = (av, al)
set_by_served v l r d v1 l1 r1 d1 fault.Leaving (OfLeaving hv hl) (AfterLeaving av) = ap (λ (x : Bool). x && l1) av
set_by_served v l r d v1 l1 r1 d1 fault.Reference (OfReference hv hl hr) (AfterReference av al ad ar) = (av ∙ hv, al ∙ hl, ar)
set_by_served v l r d v1 l1 r1 d1 fault.Dirty (OfDirty hv hl hd) (AfterDirty av al ar ad) = (av ∙ hv, al ∙ hl, ad)
set_by_served v l r d v1 l1 r1 d1 fault.Align h k = elim h [ ]
set_by_served v l r d v1 l1 r1 d1 fault.Unmapped h k = elim h [ ]
set_by_served v l r d v1 l1 r1 d1 fault.Protection h k = elim h [ ]

clash : {b : Bool} → b ≡ true → b ≡ false → ⊥
clash h k = absurd (let r : true ≡ false = sym h ∙ k in cc)

both : (v l : Bool) → v ≡ true → l ≡ true → (v && l) ≡ true
both v l h k = ap (λ (x : Bool). x && l) h ∙ k

-- a kind that is past does not answer
past_no_fault : (v l r d : Bool) (kind : FaultKind) → IsPastBy kind v l r d → Faults v l r d kind → ⊥
past_no_fault v l r d fault.Missing p (OfMissing hv) = clash p.0 hv
past_no_fault v l r d fault.Leaving p (OfLeaving hv hl) = clash (both v l hv hl) p
past_no_fault v l r d fault.Reference p (OfReference hv hl hr) = clash p.2 hr
past_no_fault v l r d fault.Dirty p (OfDirty hv hl hd) = clash p.2 hd
past_no_fault v l r d fault.Align p h = absurd p
past_no_fault v l r d fault.Unmapped p h = absurd p
past_no_fault v l r d fault.Protection p h = absurd p

-- and stays past where another is served
past_stays : (v l r d v1 l1 r1 d1 : Bool) (kind past : FaultKind) → Faults v l r d kind → After v l r d v1 l1 r1 d1 kind → IsPastBy past v l r d → IsPastBy past v1 l1 r1 d1
past_stays v l r d v1 l1 r1 d1 fault.Missing fault.Missing (OfMissing hv) k p = absurd (clash p.0 hv)
past_stays v l r d v1 l1 r1 d1 fault.Missing fault.Leaving (OfMissing hv) (AfterMissing av al) p = ap (λ (x : Bool). x && l1) av ∙ al
past_stays v l r d v1 l1 r1 d1 fault.Missing fault.Reference (OfMissing hv) k p = absurd (clash p.0 hv)
past_stays v l r d v1 l1 r1 d1 fault.Missing fault.Dirty (OfMissing hv) k p = absurd (clash p.0 hv)
past_stays v l r d v1 l1 r1 d1 fault.Leaving fault.Missing (OfLeaving hv hl) k p = absurd (clash hl p.1)
past_stays v l r d v1 l1 r1 d1 fault.Leaving fault.Leaving (OfLeaving hv hl) k p = absurd (clash (both v l hv hl) p)
past_stays v l r d v1 l1 r1 d1 fault.Leaving fault.Reference (OfLeaving hv hl) k p = absurd (clash hl p.1)
past_stays v l r d v1 l1 r1 d1 fault.Leaving fault.Dirty (OfLeaving hv hl) k p = absurd (clash hl p.1)
past_stays v l r d v1 l1 r1 d1 fault.Reference fault.Missing h (AfterReference av al ad ar) p = (av ∙ p.0, al ∙ p.1)
past_stays v l r d v1 l1 r1 d1 fault.Reference fault.Leaving h (AfterReference av al ad ar) p = ap (λ (x : Bool). x && l1) av ∙ ap (λ (x : Bool). v && x) al ∙ p
past_stays v l r d v1 l1 r1 d1 fault.Reference fault.Reference h (AfterReference av al ad ar) p = (av ∙ p.0, al ∙ p.1, ar)
past_stays v l r d v1 l1 r1 d1 fault.Reference fault.Dirty h (AfterReference av al ad ar) p = (av ∙ p.0, al ∙ p.1, ad ∙ p.2)
past_stays v l r d v1 l1 r1 d1 fault.Dirty fault.Missing h (AfterDirty av al ar ad) p = (av ∙ p.0, al ∙ p.1)
past_stays v l r d v1 l1 r1 d1 fault.Dirty fault.Leaving h (AfterDirty av al ar ad) p = ap (λ (x : Bool). x && l1) av ∙ ap (λ (x : Bool). v && x) al ∙ p
past_stays v l r d v1 l1 r1 d1 fault.Dirty fault.Reference h (AfterDirty av al ar ad) p = (av ∙ p.0, al ∙ p.1, ar ∙ p.2)
past_stays v l r d v1 l1 r1 d1 fault.Dirty fault.Dirty h (AfterDirty av al ar ad) p = (av ∙ p.0, al ∙ p.1, ad)
past_stays v l r d v1 l1 r1 d1 kind fault.Align h k p = absurd p
past_stays v l r d v1 l1 r1 d1 kind fault.Unmapped h k p = absurd p
past_stays v l r d v1 l1 r1 d1 kind fault.Protection h k p = absurd p
past_stays v l r d v1 l1 r1 d1 fault.Align past h k p = elim h [ ]
past_stays v l r d v1 l1 r1 d1 fault.Unmapped past h k p = elim h [ ]
past_stays v l r d v1 l1 r1 d1 fault.Protection past h k p = elim h [ ]

pub served-fault-falls : ServedFaultFalls
served-fault-falls w v b kind at servable within user f served =
    let e : ℕ = word_of (flat_in w) at in
    let n : ℕ = word_of (flat_in v) at in
    let was = fault_bits w b at kind servable within user f in
    let now = served_bits w v b at kind served was in
    record {
      fewer = fewer (is_valid e) (is_leaving e) (is_referenced e) (is_dirty e) (is_valid n) (is_leaving n) (is_referenced n) (is_dirty n) kind was now;
      past = set_by_served (is_valid e) (is_leaving e) (is_referenced e) (is_dirty e) (is_valid n) (is_leaving n) (is_referenced n) (is_dirty n) kind was now;
      still = λ (other : FaultKind) (p : IsPastOf e other).
          past_stays (is_valid e) (is_leaving e) (is_referenced e) (is_dirty e) (is_valid n) (is_leaving n) (is_referenced n) (is_dirty n) kind other was now p;
    }

pub past-is-no-fault : PastIsNoFault
past-is-no-fault w b kind at servable within user past f =
    let e : ℕ = word_of (flat_in w) at in
    past_no_fault (is_valid e) (is_leaving e) (is_referenced e) (is_dirty e) kind past (fault_bits w b at kind servable within user f)

pub stepped-keeps-faults : SteppedKeepsFaults
stepped-keeps-faults w v b at s =
    let same : flat_in v ≡ flat_in w = same_flat w.caches v.caches w.memory v.memory s.logical in
    record {
      faults = ap (λ (F : Flat). faults_by_word (word_of F at)) same;
      still = λ (kind : FaultKind) (p : IsPastOf (word_of (flat_in w) at) kind). subst (λ (F : Flat). IsPastOf (word_of F at) kind) (sym same) p;
    }

pub moved-falls : MovedFalls
moved-falls w v b at need e servable within user s shares moved =
    let falls = steps-fall w.caches w.memory b at need e servable.stands.walk within user moved in
    record {
      keeps = stepped-keeps-faults w v b at (step-has-stepped w v b at need servable.stands.walk within user s shares);
      steps = subst (λ (cs : List (List (Option Line))). steps_left (get_or cs b []) at need < steps_left (get_or w.caches b []) at need) (sym s.caches) falls.steps;
    }
