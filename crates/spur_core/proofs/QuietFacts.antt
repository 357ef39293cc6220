-- The entries of a turn before its first fault, and those among them by which a page leaves.
use Rattle.std.proofs.Common.{◌≡◌, ◌∙◌, ℕ, ◌==◌, Bool, true, false, if◌then◌else◌, ap, sym, refl, List, [], ◌∷◌, ◌++◌, append-nil, drop, eq-eqb}
use Rattle.std.specs.List.{AllByRecursion}
use Rattle.std.proofs.lemmas.List.Elements.{filter-append}
use Rattle.spur_flat.specs.declared.access.AccessKind.{AccessKind}
use Rattle.spur_flat.specs.declared.access.FaultKind.{FaultKind}
use Rattle.spur_flat.specs.declared.entry.Entry.{Entry}
use Rattle.spur_flat.specs.declared.entry.Entry.TheVariants.{Load, Store, Tas, Fault, Fill, Claim, WriteBack, Refresh, BlockFlush, Leave, PageOut, PageIn, SetRef, SetDirty, ClearRef}
use Rattle.spur_flat.specs.Formed.{IsMade}
use Rattle.spur_flat.specs.History.{is_own, own_entries}
use Rattle.spur_pager.specs.Ahead.{DoesAhead, entries_ahead, is_of_leaving, leaving_entries}
use Rattle.spur_pager.specs.Served.{appended}
use Rattle.spur_pager.specs.View.{View}
use Rattle.spur_core.specs.Quiet.{IsQuiet, before_fault, is_fault}

-- entries none of which is one by which a page leaves
pub quiet_all : (es : List Entry) → AllByRecursion (λ e. is_of_leaving e ≡ false) es → IsQuiet es
quiet_all [] all = refl
quiet_all (e ∷ es) all = by (is_fault e) refl (quiet_all es all.1)
  where
    by : (t : Bool) → is_fault e ≡ t → IsQuiet es → IsQuiet (e ∷ es)
    by true is rest = ap (λ (x : Bool). leaving_entries (if x then [] else e ∷ before_fault es)) is
    by false is rest =
        ap (λ (x : Bool). leaving_entries (if x then [] else e ∷ before_fault es)) is
        ∙ ap (λ (x : Bool). if x then e ∷ leaving_entries (before_fault es) else leaving_entries (before_fault es)) all.0 ∙ rest

-- one piece before another
step_quiet : (t k : Bool) (e : Entry) (p q : List Entry) → is_fault e ≡ t → is_of_leaving e ≡ k → (IsQuiet p → IsQuiet (p ++ q)) → IsQuiet (e ∷ p) → IsQuiet (e ∷ (p ++ q))
step_quiet true k e p q fault kind rest quiet = ap (λ (t : Bool). leaving_entries (if t then [] else e ∷ before_fault (p ++ q))) fault
step_quiet false true e p q fault kind rest quiet =
    let kept : leaving_entries (e ∷ before_fault p) ≡ [] = sym (ap (λ (t : Bool). leaving_entries (if t then [] else e ∷ before_fault p)) fault) ∙ quiet in
    let first : e ∷ leaving_entries (before_fault p) ≡ [] = sym (ap (λ (t : Bool). if t then e ∷ leaving_entries (before_fault p) else leaving_entries (before_fault p)) kind) ∙ kept in
    cc
step_quiet false false e p q fault kind rest quiet =
    let kept : leaving_entries (e ∷ before_fault p) ≡ [] = sym (ap (λ (t : Bool). leaving_entries (if t then [] else e ∷ before_fault p)) fault) ∙ quiet in
    let first : leaving_entries (before_fault p) ≡ [] = sym (ap (λ (t : Bool). if t then e ∷ leaving_entries (before_fault p) else leaving_entries (before_fault p)) kind) ∙ kept in
    ap (λ (t : Bool). leaving_entries (if t then [] else e ∷ before_fault (p ++ q))) fault
    ∙ ap (λ (t : Bool). if t then e ∷ leaving_entries (before_fault (p ++ q)) else leaving_entries (before_fault (p ++ q))) kind ∙ rest first

pub quiet_then : (p q : List Entry) → IsQuiet p → IsQuiet q → IsQuiet (p ++ q)
quiet_then [] q first second = second
quiet_then (e ∷ p) q first second = step_quiet (is_fault e) (is_of_leaving e) e p q refl refl (λ (h : IsQuiet p). quiet_then p q h second) first

-- a board's own entry is none by which a page leaves
pub own_quiet : (b : ℕ) (e : Entry) → is_own b e ≡ true → is_of_leaving e ≡ false
own_quiet b (Load i at value) own = refl
own_quiet b (Store i at value) own = refl
own_quiet b (Tas i at old) own = refl
own_quiet b (Fault i kind access at) own = refl
own_quiet b e own = cc

-- behind a fault nothing counts
module _ (b : ℕ) (kind : FaultKind) (access : AccessKind) (at : ℕ) (more : List Entry) where
  past_by : (t o : Bool) (e : Entry) (es fs : List Entry) → is_fault e ≡ t → is_own b e ≡ o → own_entries (e ∷ es) b ≡ fs ++ Fault b kind access at ∷ []
      → ((gs : List Entry) → own_entries es b ≡ gs ++ Fault b kind access at ∷ [] → before_fault (es ++ more) ≡ before_fault es) → before_fault (e ∷ (es ++ more)) ≡ before_fault (e ∷ es)
  past_by true o e es fs fault own is rest =
      ap (λ (t : Bool). if t then [] else e ∷ before_fault (es ++ more)) fault ∙ sym (ap (λ (t : Bool). if t then [] else e ∷ before_fault es) fault)
  past_by false false e es fs fault own is rest =
      let same : own_entries es b ≡ fs ++ Fault b kind access at ∷ [] = sym (ap (λ (t : Bool). if t then e ∷ own_entries es b else own_entries es b) own) ∙ is in
      ap (λ (xs : List Entry). if is_fault e then [] else e ∷ xs) (rest fs same)
  past_by false true e es [] fault own is rest =
      let same : e ∷ own_entries es b ≡ Fault b kind access at ∷ [] = sym (ap (λ (t : Bool). if t then e ∷ own_entries es b else own_entries es b) own) ∙ is in
      let first : e ≡ Fault b kind access at = cc in
      let clash : false ≡ true = sym fault ∙ ap is_fault first in
      cc
  past_by false true e es (f ∷ gs) fault own is rest =
      let same : e ∷ own_entries es b ≡ f ∷ (gs ++ Fault b kind access at ∷ []) = sym (ap (λ (t : Bool). if t then e ∷ own_entries es b else own_entries es b) own) ∙ is in
      ap (λ (xs : List Entry). if is_fault e then [] else e ∷ xs) (rest gs (ap (λ (xs : List Entry). drop 1 xs) same))

  none_last : (fs : List Entry) → [] ≡ fs ++ Fault b kind access at ∷ [] → ⊥
  none_last [] is = cc
  none_last (f ∷ fs) is = cc

  pub fault_past : (es fs : List Entry) → own_entries es b ≡ fs ++ Fault b kind access at ∷ [] → before_fault (es ++ more) ≡ before_fault es
  fault_past [] fs is = absurd (none_last fs is)
  fault_past (e ∷ es) fs is = past_by (is_fault e) (is_own b e) e es fs refl refl is (λ (gs : List Entry) (h : own_entries es b ≡ gs ++ Fault b kind access at ∷ []). fault_past es gs h)

-- a step ahead makes no fault
made_no : (e : Entry) → ((i : ℕ) → is_own i e ≡ false) → is_fault e ≡ false
made_no (Fault i kind access at) apart = let own : (i == i) ≡ false = apart i in let same : (i == i) ≡ true = eq-eqb i i refl in cc
made_no (Load i at value) apart = refl
made_no (Store i at value) apart = refl
made_no (Tas i at old) apart = refl
made_no (Fill i layer need at) apart = refl
made_no (Claim i at) apart = refl
made_no (WriteBack i at) apart = refl
made_no (Refresh i at) apart = refl
made_no (BlockFlush i holder at) apart = refl
made_no (Leave i at) apart = refl
made_no (PageOut i at) apart = refl
made_no (PageIn i at frame) apart = refl
made_no (SetRef i at) apart = refl
made_no (SetDirty i at) apart = refl
made_no (ClearRef i at) apart = refl

before_made : (b n : ℕ) (p q : List Entry) → AllByRecursion (IsMade b n) p → before_fault (p ++ q) ≡ p ++ before_fault q
before_made b n [] q all = refl
before_made b n (e ∷ p) q all =
    ap (λ (t : Bool). if t then [] else e ∷ before_fault (p ++ q)) (made_no e all.0.apart) ∙ ap (λ (es : List Entry). e ∷ es) (before_made b n p q all.1)

-- so a turn that begins with it, and is quiet then, has just its entries by which a page leaves
pub ahead_entries : (b n : ℕ) (w u : View) (more : List Entry) → (d : DoesAhead b w u) → AllByRecursion (IsMade b n) (appended w u) → IsQuiet more
    → leaving_entries (before_fault (appended w u ++ more)) ≡ entries_ahead b w d.written
ahead_entries b n w u more d made quiet =
    ap leaving_entries (before_made b n (appended w u) more made)
    ∙ filter-append is_of_leaving (appended w u) (before_fault more)
    ∙ ap (λ (es : List Entry). leaving_entries (appended w u) ++ es) quiet
    ∙ append-nil (leaving_entries (appended w u)) ∙ d.leaving
