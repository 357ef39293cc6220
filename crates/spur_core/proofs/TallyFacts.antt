-- Faults and fetches of a turn are counted.
use Rattle.std.proofs.Common.{◌≡◌, ◌∙◌, ℕ, suc, ◌+◌, ◌<◌, ◌≤◌, ◌&&◌, ◌||◌, Bool, true, false, if◌then◌else◌, ap, sym, refl, subst, List, [], ◌∷◌, ◌++◌, length, slice_set, arith, eq-eqb}
use Rattle.std.specs.Prelude.{filter}
use Rattle.std.specs.List.{AllByRecursion, list_any}
use Rattle.std.proofs.lemmas.List.{get_or-set_same, length-append, length-set}
use Rattle.spur_flat.specs.declared.access.FaultKind.{FaultKind}
use Rattle.spur_flat.specs.declared.access.FaultKind.TheVariants as fault
use Rattle.spur_flat.specs.declared.entry.Entry.{Entry}
use Rattle.spur_flat.specs.declared.entry.Entry.TheVariants as entry
use Rattle.spur_flat.specs.Blocks.{Apart, Opens, Role, Serves, board_of, role_of}
use Rattle.spur_flat.specs.Formed.{IsMade}
use Rattle.spur_flat.specs.History.{is_own}
use Rattle.spur_flat.specs.Needed.{open_at, open_in, open_on}
use Rattle.spur_flat.specs.State.{open_after}
use Rattle.spur_walk.specs.Laws.{is_fetch}
use Rattle.spur_core.specs.Tally.{access_fetches, fault_count, fetch_count, is_fault_of, is_serving, is_serving_role, same_fault, serves_access}

differ : true ≡ false → ⊥
differ h = absurd cc

-- how many pass a test, of two lists
count-append : (test : Entry → Bool) (xs ys : List Entry) → length (filter test (xs ++ ys)) ≡ length (filter test xs) + length (filter test ys)
count-append test [] ys = let r : length (filter test ys) ≡ 0 + length (filter test ys) = omega arith in r
count-append test (x ∷ xs) ys = one (test x) (count-append test xs ys)
  where
    one : (t : Bool) → length (filter test (xs ++ ys)) ≡ length (filter test xs) + length (filter test ys)
        → length (if t then x ∷ filter test (xs ++ ys) else filter test (xs ++ ys)) ≡ length (if t then x ∷ filter test xs else filter test xs) + length (filter test ys)
    one true h = let r : suc (length (filter test (xs ++ ys))) ≡ suc (length (filter test xs)) + length (filter test ys) = omega arith in r
    one false h = h

pub fault_count-append : (kind : FaultKind) (xs ys : List Entry) → fault_count kind (xs ++ ys) ≡ fault_count kind xs + fault_count kind ys
fault_count-append kind xs ys = count-append (is_fault_of kind) xs ys

pub fetch_count-append : (xs ys : List Entry) → fetch_count (xs ++ ys) ≡ fetch_count xs + fetch_count ys
fetch_count-append xs ys = count-append is_fetch xs ys

-- steps and the pager make no faults
own_fault : (kind : FaultKind) (e : Entry) → ((i : ℕ) → is_own i e ≡ false) → is_fault_of kind e ≡ false
own_fault kind (entry.Fault board why access at) apart = absurd (differ (sym (eq-eqb board board refl) ∙ apart board))
own_fault kind e apart = refl

pub made_no_fault : (kind : FaultKind) (b n : ℕ) (es : List Entry) → AllByRecursion (IsMade b n) es → fault_count kind es ≡ 0
made_no_fault kind b n [] all = refl
made_no_fault kind b n (e ∷ es) all =
    ap (λ (t : Bool). length (if t then e ∷ filter (is_fault_of kind) es else filter (is_fault_of kind) es)) (own_fault kind e all.0.apart) ∙ made_no_fault kind b n es all.1

pub same_fault_is : (a c : FaultKind) → same_fault a c ≡ true → a ≡ c
same_fault_is fault.Align fault.Align h = refl
same_fault_is fault.Unmapped fault.Unmapped h = refl
same_fault_is fault.Missing fault.Missing h = refl
same_fault_is fault.Leaving fault.Leaving h = refl
same_fault_is fault.Protection fault.Protection h = refl
same_fault_is fault.Reference fault.Reference h = refl
same_fault_is fault.Dirty fault.Dirty h = refl
same_fault_is a c h = cc

pub same_fault_self : (a : FaultKind) → same_fault a a ≡ true
same_fault_self fault.Align = refl
same_fault_self fault.Unmapped = refl
same_fault_self fault.Missing = refl
same_fault_self fault.Leaving = refl
same_fault_self fault.Protection = refl
same_fault_self fault.Reference = refl
same_fault_self fault.Dirty = refl

-- entries that don't serve leave it to the ones behind them
abbrev pub AreIdle : List Entry → Type 0
AreIdle es = AllByRecursion (λ (e : Entry). is_serving e ≡ false) es

serves_idle : (es rest : List Entry) → AreIdle es → serves_access (es ++ rest) ≡ serves_access rest
serves_idle [] rest all = refl
serves_idle (e ∷ es) rest all = ap (λ (t : Bool). if t then is_own (board_of e) e else serves_access (es ++ rest)) all.0 ∙ serves_idle es rest all.1

pub fetches_idle : (es rest : List Entry) → AreIdle es → serves_access rest ≡ true → access_fetches (es ++ rest) ≡ fetch_count es + access_fetches rest
fetches_idle [] rest all serves = let r : access_fetches rest ≡ 0 + access_fetches rest = omega arith in r
fetches_idle (e ∷ es) rest all serves = one (is_fetch e) (serves_access (es ++ rest)) (serves_idle es rest all.1 ∙ serves) (fetches_idle es rest all.1 serves)
  where
    one : (t s : Bool) → s ≡ true → access_fetches (es ++ rest) ≡ fetch_count es + access_fetches rest
        → (if t && s then 1 else 0) + access_fetches (es ++ rest) ≡ length (if t then e ∷ filter is_fetch es else filter is_fetch es) + access_fetches rest
    one true true h k = let r : 1 + access_fetches (es ++ rest) ≡ suc (fetch_count es) + access_fetches rest = omega arith in r
    one true false h k = absurd (differ (sym h))
    one false s h k = let r : 0 + access_fetches (es ++ rest) ≡ fetch_count es + access_fetches rest = omega arith in r

-- each fill and each claim has an entry behind it that serves
has_serving : List Entry → Bool
has_serving es = list_any is_serving es

abbrev pub IsSettled : List Entry → Type 0
IsSettled [] = Unit {0}
IsSettled (e ∷ es) = (is_fetch e ≡ true → list_any is_serving es ≡ true) × IsSettled es

any_more : (es rest : List Entry) → list_any is_serving es ≡ true → list_any is_serving (es ++ rest) ≡ true
any_more [] rest h = absurd (differ (sym h))
any_more (e ∷ es) rest h = one (is_serving e) (any_more es rest) h
  where
    one : (t : Bool) → (list_any is_serving es ≡ true → list_any is_serving (es ++ rest) ≡ true) → (t || list_any is_serving es) ≡ true → (t || list_any is_serving (es ++ rest)) ≡ true
    one true more h = refl
    one false more h = more h

any_last : (es : List Entry) (e : Entry) → is_serving e ≡ true → list_any is_serving (es ++ e ∷ []) ≡ true
any_last [] e h = ap (λ (t : Bool). t || false) h
any_last (x ∷ es) e h = one (is_serving x) (any_last es e h)
  where
    one : (t : Bool) → list_any is_serving (es ++ e ∷ []) ≡ true → (t || list_any is_serving (es ++ e ∷ [])) ≡ true
    one true h = refl
    one false h = h

pub settled_then : (xs ys : List Entry) → IsSettled xs → IsSettled ys → IsSettled (xs ++ ys)
settled_then [] ys a b = b
settled_then (x ∷ xs) ys a b = ((λ h. any_more xs ys (a.0 h)), settled_then xs ys a.1 b)

pub settled_by : (es : List Entry) (e : Entry) → is_serving e ≡ true → is_fetch e ≡ false → IsSettled (es ++ e ∷ [])
settled_by [] e serves fetch = ((λ h. absurd (differ (sym h ∙ fetch))), tt)
settled_by (x ∷ es) e serves fetch = ((λ h. any_last es e serves), settled_by es e serves fetch)

serves_there : (es rest : List Entry) → list_any is_serving es ≡ true → serves_access (es ++ rest) ≡ serves_access es
serves_there [] rest h = absurd (differ (sym h))
serves_there (e ∷ es) rest h = one (is_serving e) (serves_there es rest) h
  where
    one : (t : Bool) → (list_any is_serving es ≡ true → serves_access (es ++ rest) ≡ serves_access es) → (t || list_any is_serving es) ≡ true → (if t then is_own (board_of e) e else serves_access (es ++ rest)) ≡ (if t then is_own (board_of e) e else serves_access es)
    one true more h = refl
    one false more h = more h

pub fetches_settled : (es rest : List Entry) → IsSettled es → access_fetches (es ++ rest) ≡ access_fetches es + access_fetches rest
fetches_settled [] rest all = let r : access_fetches rest ≡ 0 + access_fetches rest = omega arith in r
fetches_settled (e ∷ es) rest all = one (is_fetch e) (serves_access (es ++ rest)) (serves_access es) (λ h. serves_there es rest (all.0 h)) (fetches_settled es rest all.1)
  where
    one : (t s q : Bool) → (t ≡ true → s ≡ q) → access_fetches (es ++ rest) ≡ access_fetches es + access_fetches rest
        → (if t && s then 1 else 0) + access_fetches (es ++ rest) ≡ (if t && q then 1 else 0) + access_fetches es + access_fetches rest
    one true s q h k =
        let r : (if q then 1 else 0) + access_fetches (es ++ rest) ≡ (if q then 1 else 0) + access_fetches es + access_fetches rest = omega arith in
        ap (λ (x : Bool). (if x then 1 else 0) + access_fetches (es ++ rest)) (h refl) ∙ r
    one false s q h k = let r : 0 + access_fetches (es ++ rest) ≡ 0 + access_fetches es + access_fetches rest = omega arith in r

-- what steps and the pager make serves no access
serves_made : (b n : ℕ) (es : List Entry) → AllByRecursion (IsMade b n) es → serves_access es ≡ false
serves_made b n [] all = refl
serves_made b n (e ∷ es) all = one (is_serving e) (all.0.apart (board_of e)) (serves_made b n es all.1)
  where
    one : (t : Bool) → is_own (board_of e) e ≡ false → serves_access es ≡ false → (if t then is_own (board_of e) e else serves_access es) ≡ false
    one true here more = here
    one false here more = more

pub fetches_made : (b n : ℕ) (es : List Entry) → AllByRecursion (IsMade b n) es → access_fetches es ≡ 0
fetches_made b n [] all = refl
fetches_made b n (e ∷ es) all = one (is_fetch e) (serves_access es) (serves_made b n es all.1) (fetches_made b n es all.1)
  where
    one : (t s : Bool) → s ≡ false → access_fetches es ≡ 0 → (if t && s then 1 else 0) + access_fetches es ≡ 0
    one true true h k = absurd (differ h)
    one true false h k = let r : 0 + access_fetches es ≡ 0 = omega arith in r
    one false s h k = let r : 0 + access_fetches es ≡ 0 = omega arith in r

-- where nothing is open at the end, all fetches were served
fetch_opens : (e : Entry) → is_fetch e ≡ true → role_of e ≡ Opens
fetch_opens (entry.Fill board layer need at) h = refl
fetch_opens (entry.Claim board at) h = refl
fetch_opens e h = cc

open_now : (b : ℕ) (opened : List (List Entry)) (e : Entry) → board_of e ≡ b → b < length opened → open_at (open_on opened e) b ≡ open_in (open_at opened b) e (role_of e)
open_now b opened e is within =
    ap (λ (n : ℕ). open_at (slice_set opened n (open_in (open_at opened n) e (role_of e))) b) is
    ∙ get_or-set_same opened b (open_in (open_at opened b) e (role_of e)) [] within

open_long : (b : ℕ) (opened : List (List Entry)) (e : Entry) → b < length opened → b < length (open_on opened e)
open_long b opened e within = subst (λ (n : ℕ). b < n) (sym (length-set opened (board_of e) (open_in (open_at opened (board_of e)) e (role_of e)))) within

some_open : (os : List Entry) (e : Entry) → 1 ≤ length (os ++ e ∷ [])
some_open os e = let is : length (os ++ e ∷ []) ≡ length os + 1 = length-append os (e ∷ []) in omega arith

served_open : (b : ℕ) (opened : List (List Entry)) (es : List Entry) → AllByRecursion (λ (e : Entry). board_of e ≡ b) es → b < length opened → 1 ≤ length (open_at opened b)
    → open_at (open_after opened es) b ≡ [] → list_any is_serving es ≡ true
served_open b opened [] all within some none =
    let long : length (open_at opened b) ≡ 0 = ap (λ (l : List Entry). length l) none in
    absurd (omega arith)
served_open b opened (e ∷ es) all within some none = one (role_of e) refl (λ more. served_open b (open_on opened e) es all.1 (open_long b opened e within) more none)
  where
    one : (r : Role) → role_of e ≡ r → (1 ≤ length (open_at (open_on opened e) b) → list_any is_serving es ≡ true) → (is_serving e || list_any is_serving es) ≡ true
    one (Serves blocks owned) is behind = ap (λ (x : Role). is_serving_role x || list_any is_serving es) is
    one Opens is behind =
        let next : open_at (open_on opened e) b ≡ open_at opened b ++ e ∷ [] = open_now b opened e all.0 within ∙ ap (open_in (open_at opened b) e) is in
        let more : 1 ≤ length (open_at (open_on opened e) b) = subst (λ (l : List Entry). 1 ≤ length l) (sym next) (some_open (open_at opened b) e) in
        ap (λ (x : Role). is_serving_role x || list_any is_serving es) is ∙ behind more
    one Apart is behind =
        let next : open_at (open_on opened e) b ≡ open_at opened b = open_now b opened e all.0 within ∙ ap (open_in (open_at opened b) e) is in
        let more : 1 ≤ length (open_at (open_on opened e) b) = subst (λ (l : List Entry). 1 ≤ length l) (sym next) some in
        ap (λ (x : Role). is_serving_role x || list_any is_serving es) is ∙ behind more

pub settled_open : (b : ℕ) (opened : List (List Entry)) (es : List Entry) → AllByRecursion (λ (e : Entry). board_of e ≡ b) es → b < length opened → open_at (open_after opened es) b ≡ [] → IsSettled es
settled_open b opened [] all within none = tt
settled_open b opened (e ∷ es) all within none = (
  (λ h.
      let next : open_at (open_on opened e) b ≡ open_at opened b ++ e ∷ [] = open_now b opened e all.0 within ∙ ap (open_in (open_at opened b) e) (fetch_opens e h) in
      let more : 1 ≤ length (open_at (open_on opened e) b) = subst (λ (l : List Entry). 1 ≤ length l) (sym next) (some_open (open_at opened b) e) in
      served_open b (open_on opened e) es all.1 (open_long b opened e within) more none),
  settled_open b (open_on opened e) es all.1 (open_long b opened e within) none,
)
