-- A course that is led on by one step.
use Rattle.std.proofs.Common.{◌≡◌, ℕ, ◌+◌, Bool, true, false, ◌⊎◌, inl, inr, List, [], ◌∷◌, ◌++◌, Option, Some, None, refl, sym, ap, ◌∙◌, if◌then◌else◌}
use Rattle.spur_cpu.specs.Meaning.{Meaning}
use Rattle.spur_cpu.specs.declared.cpu.Want.{Want}
use Rattle.spur_cpu.specs.declared.cpu.Want.TheVariants.{Local, Access, Ended}
use Rattle.spur_cpu.specs.After.{Stop, Course, is_done, wants_local, carry_local, carry_want, carry_entry, after, retire, IsLed}
use Rattle.spur_cpu.proofs.Afters.{one_local, one_done, one_fault}
use Rattle.spur_flat.specs.StateLaws.{IsAccess}
use Rattle.spur_flat.specs.declared.entry.Entry.{Entry}
use Rattle.spur_flat.specs.declared.entry.Entry.TheVariants.{Load, Store, Tas, Fault}

pub passed : {A : Type 0} (b : Bool) (x y : A) → (if b then Some x else None) ≡ Some y → x ≡ y
passed true x y e = cc
passed false x y e = absurd cc

pub faulted : {A : Type 0} (b k : Bool) (x y z : A) → (if b then (if k then Some x else Some y) else None) ≡ Some z → (x ≡ z) ⊎ (y ≡ z)
faulted true true x y z e = inl cc
faulted true false x y z e = inr cc
faulted false k x y z e = absurd cc

module _ {S : Type 0} (m : Meaning S) (segs : List ℕ) (budget : ℕ) where
  pub local_count : (c d : Course S) → carry_local m segs budget c ≡ Some d → d.retired ≡ c.retired + 1
  local_count c d h = let e = passed (wants_local m segs budget c) (retire m segs budget c (m.local c.cpu)) d h in ap (λ (x : Course S). x.retired) (sym e)

  pub want_done : (c d : Course S) (w : Want) (s : Option Stop) (e : Entry) → carry_want m segs budget c w s e ≡ Some d → is_done e ≡ true → d.retired ≡ c.retired + 1
  want_done c d Local None e h q = absurd cc
  want_done c d Local (Some s) e h q = absurd cc
  want_done c d Ended None e h q = absurd cc
  want_done c d Ended (Some s) e h q = absurd cc
  want_done c d (Access kind va value) (Some s) e h q = absurd cc
  want_done c d (Access kind va value) None (Load board at v) h q = ap (λ (x : Course S). x.retired) (sym (passed _ _ d h))
  want_done c d (Access kind va value) None (Store board at v) h q = ap (λ (x : Course S). x.retired) (sym (passed _ _ d h))
  want_done c d (Access kind va value) None (Tas board at v) h q = ap (λ (x : Course S). x.retired) (sym (passed _ _ d h))
  want_done c d (Access kind va value) None e h q = absurd cc

  pub want_fault : (c d : Course S) (w : Want) (s : Option Stop) (e : Entry) → carry_want m segs budget c w s e ≡ Some d → is_done e ≡ false → d.retired ≡ c.retired
  want_fault c d Local None e h q = absurd cc
  want_fault c d Local (Some s) e h q = absurd cc
  want_fault c d Ended None e h q = absurd cc
  want_fault c d Ended (Some s) e h q = absurd cc
  want_fault c d (Access kind va value) (Some s) e h q = absurd cc
  want_fault c d (Access kind va value) None (Load board at v) h q = absurd cc
  want_fault c d (Access kind va value) None (Store board at v) h q = absurd cc
  want_fault c d (Access kind va value) None (Tas board at v) h q = absurd cc
  want_fault c d (Access kind va value) None (Fault board k w at) h q = elim (faulted _ _ _ _ d h) [ inl e ↦ ap (λ (x : Course S). x.retired) (sym e) | inr e ↦ ap (λ (x : Course S). x.retired) (sym e) ]
  want_fault c d (Access kind va value) None e h q = absurd cc

  -- only an access, or a fault of one, carries a course on
  want_access : (c d : Course S) (w : Want) (s : Option Stop) (e : Entry) → carry_want m segs budget c w s e ≡ Some d → IsAccess e
  want_access c d Local None e h = absurd cc
  want_access c d Local (Some s) e h = absurd cc
  want_access c d Ended None e h = absurd cc
  want_access c d Ended (Some s) e h = absurd cc
  want_access c d (Access kind va value) (Some s) e h = absurd cc
  want_access c d (Access kind va value) None (Load board at v) h = tt
  want_access c d (Access kind va value) None (Store board at v) h = tt
  want_access c d (Access kind va value) None (Tas board at v) h = tt
  want_access c d (Access kind va value) None (Fault board k w at) h = tt
  want_access c d (Access kind va value) None e h = absurd cc

  pub carries_access : (c d : Course S) (e : Entry) → carry_entry m segs budget c e ≡ Some d → IsAccess e
  carries_access c d e h = want_access c d (m.wants c.cpu) c.ending e h

  -- a local instruction leads on
  pub led_local : (c d f : Course S) (es : List Entry) → IsLed m segs budget c es d → carry_local m segs budget d ≡ Some f → IsLed m segs budget c es f
  led_local c d f es h step = ap (after m segs budget c es) (local_count d f step) ∙ one_local m segs budget c d f es d.retired h step

  led_by : (b : Bool) (c d f : Course S) (es : List Entry) (e : Entry) → is_done e ≡ b → IsLed m segs budget c es d → carry_entry m segs budget d e ≡ Some f → IsLed m segs budget c (es ++ e ∷ []) f
  led_by true c d f es e q h step = ap (after m segs budget c (es ++ e ∷ [])) (want_done d f (m.wants d.cpu) d.ending e step q) ∙ one_done m segs budget c d f es e d.retired h step q
  led_by false c d f es e q h step = ap (after m segs budget c (es ++ e ∷ [])) (want_fault d f (m.wants d.cpu) d.ending e step q) ∙ one_fault m segs budget c d f es e d.retired h step q

  -- an entry leads on
  pub led_entry : (c d f : Course S) (es : List Entry) (e : Entry) → IsLed m segs budget c es d → carry_entry m segs budget d e ≡ Some f → IsLed m segs budget c (es ++ e ∷ []) f
  led_entry c d f es e h step = led_by (is_done e) c d f es e refl h step
