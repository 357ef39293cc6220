-- The first word whose page is not declared.
use Rattle.std.specs.Prelude.{slice_get}
use Rattle.std.specs.List.{All, Any, find}
use Rattle.std.proofs.Common.{◌≡◌, ◌≢◌, ℕ, zero, suc, ◌<◌, not, Bool, true, false, List, [], ◌∷◌, Some, None, is_some, refl, sym, ap, ◌∙◌, arith, if◌then◌else◌}
use Rattle.spur_addr.specs.Address.{page_of}
use Rattle.spur_object.specs.declared.unit.PageText.{PageText}
use Rattle.spur_object.specs.declared.unit.WordText.{WordText}
use Rattle.spur_loader.specs.Opening.{declares}
use Rattle.spur_loader.specs.Faults.{is_outside}
use Rattle.spur_loader.specs.FaultLaws.{IsInside, NoneOutside, OutsideIsFirst}
use Rattle.spur_loader.proofs.ListFacts.{all_at, all_get, any_at, any_get}
use Rattle.spur_loader.proofs.EntryWords.{IsEntryWord, Undeclared, Declared, entry_cases}

-- ---- the first member that passes a test

record IsFirst {X : Type 0} (test : X → Bool) (xs : List X) (x : X) : Type 0 where
  position : ℕ
  at : slice_get xs position ≡ Some x
  passes : test x ≡ true
  before : (i : ℕ) (y : X) → i < position → slice_get xs i ≡ Some y → test y ≡ false

before_more : {X : Type 0} (test : X → Bool) (y : X) (ys : List X) (n : ℕ) → test y ≡ false
    → ((i : ℕ) (z : X) → i < n → slice_get ys i ≡ Some z → test z ≡ false)
    → (i : ℕ) (z : X) → i < suc n → slice_get (y ∷ ys) i ≡ Some z → test z ≡ false
before_more test y ys n fails rest zero z below at = let e : Some y ≡ Some z = at in let same : y ≡ z = cc in ap test (sym same) ∙ fails
before_more test y ys n fails rest (suc i) z below at = rest i z (let l : suc i < suc n = below in omega arith) at

first_by : {X : Type 0} (test : X → Bool) (y : X) (ys : List X) (x : X) (b : Bool) → test y ≡ b → (if b then Some y else find test ys) ≡ Some x
    → (find test ys ≡ Some x → IsFirst test ys x) → IsFirst test (y ∷ ys) x
first_by test y ys x true e found later =
    let f : Some y ≡ Some x = found in
    let same : y ≡ x = cc in
    record { position = 0; at = f; passes = ap test (sym same) ∙ e; before = λ i z below at. absurd (let l : i < 0 = below in omega arith) }
first_by test y ys x false e found later =
    let r = later found in
    record { position = suc r.position; at = r.at; passes = r.passes; before = before_more test y ys r.position e r.before }

first_is : {X : Type 0} (test : X → Bool) (xs : List X) (x : X) → find test xs ≡ Some x → IsFirst test xs x
first_is test [] x found = let f : None ≡ Some x = found in cc
first_is test (y ∷ ys) x found = first_by test y ys x (test y) refl found (first_is test ys x)

none_by : {X : Type 0} (test : X → Bool) (y : X) (ys : List X) (b : Bool) → test y ≡ b → (if b then Some y else find test ys) ≡ None
    → (find test ys ≡ None → (i : ℕ) (z : X) → slice_get ys i ≡ Some z → test z ≡ false) → (i : ℕ) (z : X) → slice_get (y ∷ ys) i ≡ Some z → test z ≡ false
none_by test y ys true e none later i z at = let f : Some y ≡ None = none in cc
none_by test y ys false e none later zero z at = let f : Some y ≡ Some z = at in let same : y ≡ z = cc in ap test (sym same) ∙ e
none_by test y ys false e none later (suc i) z at = later none i z at

none_passes : {X : Type 0} (test : X → Bool) (xs : List X) → find test xs ≡ None → (i : ℕ) (z : X) → slice_get xs i ≡ Some z → test z ≡ false
none_passes test [] none i z at = cc
none_passes test (y ∷ ys) none i z at = none_by test y ys (test y) refl none (none_passes test ys) i z at

none_found : {X : Type 0} (test : X → Bool) (xs : List X) → ((i : ℕ) (z : X) → slice_get xs i ≡ Some z → test z ≡ false) → find test xs ≡ None
none_found test [] fail = refl
none_found test (y ∷ ys) fail =
    ap (λ (b : Bool). if b then Some y else find test ys) (fail 0 y refl) ∙ none_found test ys (λ i z at. fail (suc i) z at)

-- ---- whether a page is declared

declared_by : (pages : List PageText) (p : ℕ) → IsEntryWord pages p → declares pages p ≡ true → Any (λ page. page.page ≡ p) pages
declared_by pages p (Undeclared none nil lacks) e = let f : false ≡ true = ap is_some (sym none) ∙ e in cc
declared_by pages p (Declared k page slot at is value) e = any_at (λ (q : PageText). q.page ≡ p) pages k page at is

undeclared_by : (pages : List PageText) (p : ℕ) → IsEntryWord pages p → declares pages p ≡ false → All (λ page. page.page ≢ p) pages
undeclared_by pages p (Undeclared none nil lacks) e = all_at (λ (q : PageText). q.page ≢ p) pages lacks
undeclared_by pages p (Declared k page slot at is value) e = let f : true ≡ false = ap is_some (sym slot) ∙ e in cc

by_declared : (pages : List PageText) (p : ℕ) → IsEntryWord pages p → Any (λ page. page.page ≡ p) pages → declares pages p ≡ true
by_declared pages p (Undeclared none nil lacks) some =
    let m = any_get (λ (q : PageText). q.page ≡ p) pages some in
    absurd (lacks m.position m.member m.at m.holds)
by_declared pages p (Declared k page slot at is value) some = ap is_some slot

not_true : (b : Bool) → not b ≡ true → b ≡ false
not_true true e = cc
not_true false e = refl

not_false : (b : Bool) → not b ≡ false → b ≡ true
not_false true e = refl
not_false false e = cc

-- ---- the laws

inside : (pages : List PageText) (word : WordText) → is_outside pages word ≡ false → IsInside pages word
inside pages word e =
    declared_by pages (page_of word.at) (entry_cases pages (page_of word.at)) (not_false (declares pages (page_of word.at)) e)

pub outside_is_first : OutsideIsFirst
outside_is_first pages words word found =
    let f = first_is (is_outside pages) words word found in
    record {
      position = f.position;
      at = f.at;
      outside = undeclared_by pages (page_of word.at) (entry_cases pages (page_of word.at)) (not_true (declares pages (page_of word.at)) f.passes);
      before = λ i other below at. inside pages other (f.before i other below at);
    }

pub none_outside : NoneOutside
none_outside pages words = (
  (λ none. all_at (IsInside pages) words (λ i word at. inside pages word (none_passes (is_outside pages) words none i word at))),
  (λ all. none_found (is_outside pages) words (λ i word at.
      ap not (by_declared pages (page_of word.at) (entry_cases pages (page_of word.at)) (all_get (IsInside pages) words i word all at)))),
)
