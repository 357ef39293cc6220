-- Register 0 stays 0.
use Rattle.std.proofs.Common.{◌≢◌, ◌≡◌, ℕ, zero, suc, Bool, false, inl, inr, List, [], ◌∷◌, Option, Some, None, refl, sym, ap, ◌∙◌, subst, if◌then◌else◌, slice_set, length-set, ne_eqb, arith}
use Rattle.std.specs.Prelude.{◌==◌}
use Rattle.spur_isa.specs.declared.instr.Instr.{Instr}
use Rattle.spur_isa.specs.declared.instr.Instr.TheVariants.{Ld, Tas}
use Rattle.spur_cpu.specs.declared.step.Step.{Step}
use Rattle.spur_cpu.specs.declared.step.Step.TheVariants.{Writes, Goes, Shows, Ends}
use Rattle.spur_cpu.specs.declared.cpu.Want.{Want}
use Rattle.spur_cpu.specs.declared.cpu.Want.TheVariants.{Local, Access, Ended}
use Rattle.spur_cpu.specs.declared.cpu.Answer.{Answer}
use Rattle.spur_cpu.specs.declared.cpu.Answer.TheVariants.{Done, Faulted}
use Rattle.spur_flat.specs.declared.entry.Entry.{Entry}
use Rattle.spur_flat.specs.declared.entry.Entry.TheVariants.{Load, Store, Tas as TasEntry, Fault}
use Rattle.spur_cpu.specs.Registers.{loaded, register_of, with_register}
use Rattle.spur_cpu.specs.Plain.{Plain, plain, opened, after_step, instr_of, next_step, plain_local, plain_answer}
use Rattle.spur_cpu.specs.After.{Stop, Course, begun, carry_want, wants_local, retire}
use Rattle.spur_cpu.specs.ZeroRegister.{IsSixteen, ZeroStays}
use Rattle.spur_cpu.proofs.Afters.{after_keeps}
use Rattle.spur_cpu.proofs.Led.{passed, faulted}

kept_at : (xs : List ℕ) (a value : ℕ) → register_of (slice_set xs (suc a) value) 0 ≡ register_of xs 0
kept_at [] a value = refl
kept_at (x ∷ xs) a value = refl

zero_written : (xs : List ℕ) (a value : ℕ) → IsSixteen xs → IsSixteen (with_register xs a value)
zero_written xs zero value h = h
zero_written xs (suc a) value h =
    let off : (suc a == 0) ≡ false = (let n : suc a ≢ 0 = (λ q. omega arith) in ne_eqb (suc a) 0 n) in
    let is : with_register xs (suc a) value ≡ slice_set xs (suc a) value = ap (λ (b : Bool). if b then xs else slice_set xs (suc a) value) off in
    subst IsSixteen (sym is) record { sixteen = length-set _ _ _ ∙ h.sixteen; zero = kept_at xs a value ∙ h.zero }

zero_loaded : (i : Instr) (xs : List ℕ) (value : ℕ) → IsSixteen xs → IsSixteen (loaded i xs value)
zero_loaded (Ld a b i) xs value h = zero_written xs a value h
zero_loaded (Tas a b i) xs value h = zero_written xs a value h
zero_loaded other xs value h = h

zero_stepped : (s : Plain) (step : Step) → IsSixteen s.registers → IsSixteen (after_step s step).registers
zero_stepped s (Writes a value to) h = zero_written s.registers a value h
zero_stepped s (Goes to) h = h
zero_stepped s (Shows value) h = h
zero_stepped s Ends h = h

zero_answered : (s : Plain) (a : Answer) → IsSixteen s.registers → IsSixteen (plain_answer s a).registers
zero_answered s (Done value) h = zero_loaded (instr_of s) s.registers value h
zero_answered s (Faulted kind) h = h

abbrev Fine : Course Plain → Type 0
Fine c = IsSixteen c.cpu.registers

zero_want : (segs : List ℕ) (budget : ℕ) (c d : Course Plain) (w : Want) (s : Option Stop) (e : Entry) → carry_want plain segs budget c w s e ≡ Some d → Fine c → Fine d
zero_want segs budget c d Local None e h f = absurd cc
zero_want segs budget c d Local (Some s) e h f = absurd cc
zero_want segs budget c d Ended None e h f = absurd cc
zero_want segs budget c d Ended (Some s) e h f = absurd cc
zero_want segs budget c d (Access kind va value) (Some s) e h f = absurd cc
zero_want segs budget c d (Access kind va value) None (Load board at v) h f = subst Fine (passed _ _ d h) (zero_answered c.cpu (Done v) f)
zero_want segs budget c d (Access kind va value) None (Store board at v) h f = subst Fine (passed _ _ d h) (zero_answered c.cpu (Done v) f)
zero_want segs budget c d (Access kind va value) None (TasEntry board at v) h f = subst Fine (passed _ _ d h) (zero_answered c.cpu (Done v) f)
zero_want segs budget c d (Access kind va value) None (Fault board k w at) h f = elim (faulted _ _ _ _ d h) [ inl e ↦ subst Fine e (zero_answered c.cpu (Faulted k) f) | inr e ↦ subst Fine e f ]
zero_want segs budget c d (Access kind va value) None e h f = absurd cc

pub zero-stays : ZeroStays
zero-stays code segs budget es n d h = after_keeps plain segs budget (λ c k. Fine c) record {
  local = λ c d k e f. subst Fine (passed (wants_local plain segs budget c) (retire plain segs budget c (plain_local c.cpu)) d e) (zero_stepped c.cpu (next_step c.cpu) f);
  done = λ c d e k h q f. zero_want segs budget c d (plain.wants c.cpu) c.ending e h f;
  fault = λ c d e k h q f. zero_want segs budget c d (plain.wants c.cpu) c.ending e h f;
} (begun (opened code)) d es n 0 record { sixteen = refl; zero = refl } h
