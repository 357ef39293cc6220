-- Verdicts of pieces, and where a history turns bad.
use Rattle.std.proofs.Common.{◌≡◌, ◌≢◌, ℕ, zero, suc, ◌+◌, ◌<◌, ◌↔◌, ◌⊎◌, inl, inr, List, [], ◌∷◌, ◌++◌, Option, Some, None, refl, sym, ap, ◌∙◌, subst, arith, length, take}
use Rattle.spur_flat.specs.declared.illegal.Illegal.{Illegal}
use Rattle.spur_flat.specs.declared.entry.Entry.{Entry}
use Rattle.spur_cpu.specs.Meaning.{Meaning}
use Rattle.spur_check.specs.declared.verdict.Verdict.{Verdict}
use Rattle.spur_check.specs.declared.verdict.Verdict.TheVariants.{Good, Bad}
use Rattle.spur_check.specs.Judged.{Progress, entry_refusal, judged_from, verdict_or, progress_after, progress_on}
use Rattle.spur_check.specs.Laws.{IsBadAt, IsGood, TurnsBadFrom, and_then}

or_later : (o : Option Illegal) (n : ℕ) (rest later : Verdict) → verdict_or o n (and_then rest later) ≡ and_then (verdict_or o n rest) later
or_later None n rest later = refl
or_later (Some why) n rest later = refl

known : (o : Option Illegal) → (o ≡ None) ⊎ ((why : Illegal) × (o ≡ Some why))
known None = inl refl
known (Some why) = inr (why, refl)

pub good_is : (v : Verdict) → IsGood v → (n : ℕ) × (v ≡ Good n)
good_is (Good n) h = (n, refl)
good_is (Bad at clause wanted found) h = absurd h

pub is_good : (v : Verdict) (n : ℕ) → v ≡ Good n → IsGood v
is_good (Good k) n e = tt
is_good (Bad at clause wanted found) n e = absurd cc

good_same : (k n : ℕ) → Good k ≡ Good n → n ≡ k
good_same k n e = cc

module _ {S : Type 0} (m : Meaning S) where
  pub in-pieces : (p : Progress S) (first second : List Entry) → judged_from m p (first ++ second) ≡ and_then (judged_from m p first) (judged_from m (progress_after m p first) second)
  in-pieces p [] second = refl
  in-pieces p (e ∷ es) second =
      ap (verdict_or (entry_refusal m p e) (p.count + 1)) (in-pieces (progress_on m p e) es second)
      ∙ or_later (entry_refusal m p e) (p.count + 1) (judged_from m (progress_on m p e) es) (judged_from m (progress_after m (progress_on m p e) es) second)

  none_now : (p : Progress S) (e : Entry) (es : List Entry) → entry_refusal m p e ≡ None → judged_from m p (e ∷ es) ≡ judged_from m (progress_on m p e) es
  none_now p e es h = ap (λ (o : Option Illegal). verdict_or o (p.count + 1) (judged_from m (progress_on m p e) es)) h

  some_now : (p : Progress S) (e : Entry) (es : List Entry) (why : Illegal) → entry_refusal m p e ≡ Some why → judged_from m p (e ∷ es) ≡ Bad (p.count + 1) why.clause why.wanted why.found
  some_now p e es why h = ap (λ (o : Option Illegal). verdict_or o (p.count + 1) (judged_from m (progress_on m p e) es)) h

  not_good : (at : ℕ) (why : Illegal) → Bad at why.clause why.wanted why.found ≢ Good at
  not_good at why e = absurd cc

  -- a good history is judged with its length
  pub good-has-length : (p : Progress S) (es : List Entry) (n : ℕ) → judged_from m p es ≡ Good n → n ≡ p.count + length es
  good-has-length p [] n h = let e : n ≡ p.count = good_same p.count n h in omega arith
  good-has-length p (e ∷ es) n h = elim (known (entry_refusal m p e)) [
    | inl none ↦ let later = good-has-length (progress_on m p e) es n (sym (none_now p e es none) ∙ h) in let more : length (e ∷ es) ≡ suc (length es) = refl in omega arith
    | inr (why, some) ↦ let never = sym (some_now p e es why some) ∙ h in absurd cc
  ]

  bad_late : (k : ℕ) (p : Progress S) (es : List Entry) → IsBadAt k (judged_from m p es) → p.count < k
  bad_late k p [] h = absurd h
  bad_late k p (e ∷ es) h = elim (known (entry_refusal m p e)) [
    | inl none ↦ let later = bad_late k (progress_on m p e) es (subst (IsBadAt k) (none_now p e es none) h) in omega arith
    | inr (why, some) ↦ let at : p.count + 1 ≡ k = subst (IsBadAt k) (some_now p e es why some) h in omega arith
  ]

  pub bad_turned : (p : Progress S) (es : List Entry) (n : ℕ) → IsBadAt (p.count + suc n) (judged_from m p es) → TurnsBadFrom m p es n
  bad_turned p [] n h = absurd h
  bad_turned p (e ∷ es) n h = elim (known (entry_refusal m p e)) [
    | inl none ↦ passed n (subst (IsBadAt (p.count + suc n)) (none_now p e es none) h) none (λ k g. bad_turned (progress_on m p e) es k g)
    | inr (why, some) ↦
        let at : p.count + 1 ≡ p.count + suc n = subst (IsBadAt (p.count + suc n)) (some_now p e es why some) h in
        let none : zero ≡ n = omega arith in
        subst (TurnsBadFrom m p (e ∷ es)) none record { before = tt; with_it = λ g. subst IsGood (some_now p e [] why some) g }
  ] where
    passed : (n : ℕ) → IsBadAt (p.count + suc n) (judged_from m (progress_on m p e) es) → entry_refusal m p e ≡ None
        → ((k : ℕ) → IsBadAt (p.count + 1 + suc k) (judged_from m (progress_on m p e) es) → TurnsBadFrom m (progress_on m p e) es k) → TurnsBadFrom m p (e ∷ es) n
    passed zero g none more = let late = bad_late (p.count + 1) (progress_on m p e) es g in absurd (omega arith)
    passed (suc k) g none more =
        let same : p.count + suc (suc k) ≡ p.count + 1 + suc k = omega arith in
        let t = more k (subst (λ (x : ℕ). IsBadAt x (judged_from m (progress_on m p e) es)) same g) in
        record {
          before = subst IsGood (sym (none_now p e (take k es) none)) t.before;
          with_it = λ good. t.with_it (subst IsGood (none_now p e (take (suc k) es) none) good);
        }

  pub turned_bad : (p : Progress S) (es : List Entry) (n : ℕ) → TurnsBadFrom m p es n → IsBadAt (p.count + suc n) (judged_from m p es)
  turned_bad p [] n t = absurd (t.with_it tt)
  turned_bad p (e ∷ es) n t = elim (known (entry_refusal m p e)) [
    | inl none ↦ passed n none t (λ k u. turned_bad (progress_on m p e) es k u)
    | inr (why, some) ↦ stopped n why some t
  ] where
    passed : (n : ℕ) → entry_refusal m p e ≡ None → TurnsBadFrom m p (e ∷ es) n
        → ((k : ℕ) → TurnsBadFrom m (progress_on m p e) es k → IsBadAt (p.count + 1 + suc k) (judged_from m (progress_on m p e) es)) → IsBadAt (p.count + suc n) (judged_from m p (e ∷ es))
    passed zero none t more = absurd (t.with_it (subst IsGood (sym (none_now p e [] none)) tt))
    passed (suc k) none t more =
        let same : p.count + 1 + suc k ≡ p.count + suc (suc k) = omega arith in
        let u = more k record { before = subst IsGood (none_now p e (take k es) none) t.before; with_it = λ good. t.with_it (subst IsGood (sym (none_now p e (take (suc k) es) none)) good) } in
        subst (IsBadAt (p.count + suc (suc k))) (sym (none_now p e es none)) (subst (λ (x : ℕ). IsBadAt x (judged_from m (progress_on m p e) es)) same u)

    stopped : (n : ℕ) (why : Illegal) → entry_refusal m p e ≡ Some why → TurnsBadFrom m p (e ∷ es) n → IsBadAt (p.count + suc n) (judged_from m p (e ∷ es))
    stopped zero why some t = subst (IsBadAt (p.count + 1)) (sym (some_now p e es why some)) refl
    stopped (suc k) why some t = absurd (subst IsGood (some_now p e (take k es) why some) t.before)

  pub bad-where-it-turns : (p : Progress S) (es : List Entry) (n : ℕ) → IsBadAt (p.count + suc n) (judged_from m p es) ↔ TurnsBadFrom m p es n
  bad-where-it-turns p es n = (bad_turned p es n, turned_bad p es n)
