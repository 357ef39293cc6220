-- What a token stands for as a field, both ways: the token that spells a value stands for it, and a token that stands for it spells it.
use Rattle.std.proofs.Common.{◌≡◌, ℕ, ◌+◌, ◌-◌, ◌%◌, ◌<◌, ◌≤◌, Bool, true, false, ◌&&◌, ◌||◌, cond, eqb, ltb, List, [], ◌∷◌, Option, Some, None, Result, Ok, Err, refl, sym, ap, subst, ◌∙◌, arith, inl, inr, ℤ, pos, negsuc, ◌≤ℤ◌}
use Rattle.std.proofs.lemmas.Bool.{and_parts, eqb-true, eq-eqb, lt-ltb, le-ltb, ltb-true, cases_lt}
use Rattle.std.proofs.lemmas.Bool.Decides.{nat_tests}
use Rattle.std.proofs.lemmas.Int.{ints}
use Rattle.std.proofs.lemmas.Slice.Eq.{bytes_eq-Decides}
use Rattle.std.specs.Prelude.{int_lt, unsigned_abs, codes}
use Rattle.std.specs.Char.{is_ascii_digit}
use Rattle.std.specs.Str.{bytes_eq}
use Rattle.spur_addr.specs.declared.page_entry.Protection.{Protection}
use Rattle.spur_addr.specs.declared.page_entry.Protection.TheVariants.{Nothing, ReadOnly, ReadWrite}
use Rattle.spur_asm.specs.Token.{Token, Name, Number, Mark}
use Rattle.spur_asm.specs.Item.{register, register_text, protection_text, natural}
use Rattle.spur_asm.specs.Fields.{◌>>=◌, known, mark_in, named_register, register_in, named_protection, protection_in, number_in, natural_in, offset_in, label_in}
use Rattle.spur_asm.specs.declared.fault.AsmKind.{AsmKind}
use Rattle.spur_asm.specs.declared.fault.AsmKind.TheVariants.{BadNumber, NoLabel, UnknownName}

-- ---- steps and tests

-- a step that did not fail, and what came of its value
pub record Step {A B E : Type 0} (r : Result A E) (f : A → Result B E) (y : B) : Type 0 where
  pub value : A
  pub is : r ≡ Ok value
  pub next : f value ≡ Ok y

pub bind_ok : {A B E : Type 0} (r : Result A E) (f : A → Result B E) (y : B) → (r >>= f) ≡ Ok y → Step r f y
bind_ok (Ok x) f y e = record { value = x; is = refl; next = e }
bind_ok (Err m) f y e = absurd cc

-- what was made of the value of a step
pub made_then : {A B E : Type 0} (r : Result A E) (make : A → B) (y : B) → (r >>= (λ x. Ok (make x))) ≡ Ok y
    → (P : B → Type 0) → ((x : A) → r ≡ Ok x → P (make x)) → P y
made_then (Ok x) make y e P next = let same : make x ≡ y = cc in subst P same (next x refl)
made_then (Err m) make y e P next = absurd cc

-- a test that was met
ok_if : {A E : Type 0} (b : Bool) (x y : A) (m : E) → cond b (Ok x) (Err m) ≡ Ok y → (b ≡ true) × (x ≡ y)
ok_if true x y m e = (refl, cc)
ok_if false x y m e = absurd cc

-- a test that was not met
ok_unless : {A E : Type 0} (b : Bool) (x y : A) (m : E) → cond b (Err m) (Ok x) ≡ Ok y → (b ≡ false) × (x ≡ y)
ok_unless true x y m e = absurd cc
ok_unless false x y m e = (refl, cc)

some_if : {A : Type 0} (b : Bool) (x y : A) → cond b (Some x) None ≡ Some y → (b ≡ true) × (x ≡ y)
some_if true x y e = (refl, cc)
some_if false x y e = absurd cc

known_is : {A : Type 0} (kind : AsmKind) (o : Option A) (x : A) → known kind o ≡ Ok x → o ≡ Some x
known_is kind None x e = absurd cc
known_is kind (Some y) x e = cc

-- ---- marks

pub mark_is : (wanted : ℕ) (token : Token) (x : ℕ) → mark_in wanted token ≡ Ok x → token ≡ Mark wanted
mark_is wanted (Name name) x e = absurd cc
mark_is wanted (Number z) x e = absurd cc
mark_is wanted (Mark mark) x e = let t = ok_if (eqb mark wanted) wanted x _ e in ap (λ (m : ℕ). Mark m) (eqb-true mark wanted t.0)

-- ---- registers

digit_tests : (c : ℕ) → 48 ≤ c → c ≤ 57 → is_ascii_digit c ≡ true
digit_tests c low high = grind (arith, nat_tests)

digit_low : (c : ℕ) → is_ascii_digit c ≡ true → 48 ≤ c
digit_low c e = grind (arith, nat_tests)

digit_high : (c : ℕ) → is_ascii_digit c ≡ true → c ≤ 57
digit_high c e = grind (arith, nat_tests)

one_digit : (a : ℕ) → a < 10 → named_register (114 ∷ (48 + a) ∷ []) ≡ Some a
one_digit a low =
    let back : 48 + a - 48 ≡ a = omega arith in
    rw (digit_tests (48 + a) (omega arith) (omega arith), back) refl

two_digits : (a : ℕ) → 10 ≤ a → a < 16 → named_register (114 ∷ 49 ∷ (48 + (a - 10)) ∷ []) ≡ Some a
two_digits a high below =
    let back : 48 + (a - 10) - 38 ≡ a = omega arith in
    rw (digit_tests (48 + (a - 10)) (omega arith) (omega arith), lt-ltb (48 + (a - 10)) 54 (omega arith), back) refl

register_named : (a : ℕ) → a < 16 → named_register (register_text a) ≡ Some a
register_named a below =
    elim (cases_lt a 10) [
      | inl low ↦ rw (lt-ltb a 10 low) (one_digit a low)
      | inr high ↦ rw (le-ltb a 10 high) (two_digits a high below)
    ]

pub register_read : (a : ℕ) → a < 16 → register_in (register a) ≡ Ok a
register_read a below = ap (known UnknownName) (register_named a below)

-- the name is that of a register
record IsRegister (name : List ℕ) (a : ℕ) : Type 0 where
  below : a < 16
  spelled : name ≡ register_text a

two_is : (r d a : ℕ) → cond (eqb r 114 && is_ascii_digit d) (Some (d - 48)) None ≡ Some a → IsRegister (r ∷ d ∷ []) a
two_is r d a e =
    let t = some_if (eqb r 114 && is_ascii_digit d) (d - 48) a e in
    let p = and_parts (eqb r 114) (is_ascii_digit d) t.0 in
    let head : r ≡ 114 = eqb-true r 114 p.0 in
    let least = digit_low d p.1 in
    let most = digit_high d p.1 in
    let value : d - 48 ≡ a = t.1 in
    let low : a < 10 = omega arith in
    let digit : d ≡ 48 + a = omega arith in
    record { below = omega arith; spelled = rw (lt-ltb a 10 low, head, digit) refl }

three_is : (r one d a : ℕ) → cond (eqb r 114 && eqb one 49 && is_ascii_digit d && ltb d 54) (Some (d - 38)) None ≡ Some a → IsRegister (r ∷ one ∷ d ∷ []) a
three_is r one d a e =
    let t = some_if (eqb r 114 && eqb one 49 && is_ascii_digit d && ltb d 54) (d - 38) a e in
    let p3 = and_parts (eqb r 114 && eqb one 49 && is_ascii_digit d) (ltb d 54) t.0 in
    let p2 = and_parts (eqb r 114 && eqb one 49) (is_ascii_digit d) p3.0 in
    let p1 = and_parts (eqb r 114) (eqb one 49) p2.0 in
    let head : r ≡ 114 = eqb-true r 114 p1.0 in
    let second : one ≡ 49 = eqb-true one 49 p1.1 in
    let least = digit_low d p2.1 in
    let less : d < 54 = ltb-true d 54 p3.1 in
    let value : d - 38 ≡ a = t.1 in
    let high : 10 ≤ a = omega arith in
    let digit : d ≡ 48 + (a - 10) = omega arith in
    record { below = omega arith; spelled = rw (le-ltb a 10 high, head, second, digit) refl }

register_name_is : (name : List ℕ) (a : ℕ) → named_register name ≡ Some a → IsRegister name a
register_name_is [] a e = absurd cc
register_name_is (r ∷ []) a e = absurd cc
register_name_is (r ∷ d ∷ []) a e = two_is r d a e
register_name_is (r ∷ one ∷ d ∷ []) a e = three_is r one d a e
register_name_is (r ∷ one ∷ d ∷ x ∷ more) a e = absurd cc

pub register_is : (token : Token) (a : ℕ) → register_in token ≡ Ok a → (a < 16) × (token ≡ register a)
register_is (Name name) a e =
    let is = register_name_is name a (known_is UnknownName (named_register name) a e) in
    (is.below, ap (λ (text : List ℕ). Name text) is.spelled)
register_is (Number z) a e = absurd cc
register_is (Mark mark) a e = absurd cc

-- ---- protections

-- what a name stands for in a table of names, where each entry has its name by f
named_or : {A : Type 0} (f : A → List ℕ) (name key : List ℕ) (x y : A) (others : Option A) → f x ≡ key → (others ≡ Some y → name ≡ f y)
    → cond (bytes_eq name key) (Some x) others ≡ Some y → name ≡ f y
named_or f name key x y others key_is next e = by_test (bytes_eq name key) refl e
  where
    by_test : (b : Bool) → bytes_eq name key ≡ b → cond b (Some x) others ≡ Some y → name ≡ f y
    by_test true t e =
        let same : x ≡ y = cc in
        (bytes_eq-Decides name key).0 t ∙ sym key_is ∙ ap f same
    by_test false t e = next e

protection_name_is : (name : List ℕ) (prot : Protection) → named_protection name ≡ Some prot → name ≡ protection_text prot
protection_name_is name prot e =
    named_or protection_text name (codes "none") Nothing prot _ refl (λ e1.
    named_or protection_text name (codes "ro") ReadOnly prot _ refl (λ e2.
    named_or protection_text name (codes "rw") ReadWrite prot None refl (λ e3. absurd cc) e2) e1) e

pub protection_read : (prot : Protection) → protection_in (Name (protection_text prot)) ≡ Ok prot
protection_read Nothing = refl
protection_read ReadOnly = refl
protection_read ReadWrite = refl

pub protection_is : (token : Token) (prot : Protection) → protection_in token ≡ Ok prot → token ≡ Name (protection_text prot)
protection_is (Name name) prot e = ap (λ (text : List ℕ). Name text) (protection_name_is name prot (known_is UnknownName (named_protection name) prot e))
protection_is (Number z) prot e = absurd cc
protection_is (Mark mark) prot e = absurd cc

-- ---- numbers

inside : (low high z : ℤ) → low ≤ℤ z → z ≤ℤ high → (int_lt z low || int_lt high z) ≡ false
inside low high z least most = grind (arith, ints)

inside_least : (low high z : ℤ) → (int_lt z low || int_lt high z) ≡ false → low ≤ℤ z
inside_least low high z e = grind (arith, ints)

inside_most : (low high z : ℤ) → (int_lt z low || int_lt high z) ≡ false → z ≤ℤ high
inside_most low high z e = grind (arith, ints)

pub number_read : (low high z : ℤ) → low ≤ℤ z → z ≤ℤ high → number_in low high (Number z) ≡ Ok z
number_read low high z least most = rw (inside low high z least most) refl

-- the token is this number, and the number is from low to high
pub record IsWithin (low high : ℤ) (token : Token) (z : ℤ) : Type 0 where
  pub least : low ≤ℤ z
  pub most : z ≤ℤ high
  pub is : token ≡ Number z

pub number_is : (low high : ℤ) (token : Token) (z : ℤ) → number_in low high token ≡ Ok z → IsWithin low high token z
number_is low high (Name name) z e = absurd cc
number_is low high (Number y) z e =
    let t = ok_unless (int_lt y low || int_lt high y) y z BadNumber e in
    subst (λ (x : ℤ). IsWithin low high (Number y) x) t.1 (record { least = inside_least low high y t.0; most = inside_most low high y t.0; is = refl })
number_is low high (Mark mark) z e = absurd cc

pub natural_read : (high n : ℕ) → n ≤ high → natural_in high (natural n) ≡ Ok n
natural_read high n most = rw (number_read (pos 0) (pos high) (pos n) (omega (arith, ints)) (omega (arith, ints))) refl

-- a number that is not below 0
natural_within : (high : ℕ) (token : Token) (z : ℤ) → IsWithin (pos 0) (pos high) token z → (unsigned_abs z ≤ high) × (token ≡ natural (unsigned_abs z))
natural_within high token (pos n) is = (let most = is.most in omega (arith, ints), is.is)
natural_within high token (negsuc n) is = absurd (let least = is.least in omega (arith, ints))

pub natural_is : (high : ℕ) (token : Token) (n : ℕ) → natural_in high token ≡ Ok n → (n ≤ high) × (token ≡ natural n)
natural_is high token n e =
    let s = bind_ok (number_in (pos 0) (pos high) token) _ n e in
    let same : unsigned_abs s.value ≡ n = (let last = s.next in cc) in
    subst (λ (m : ℕ). (m ≤ high) × (token ≡ natural m)) same (natural_within high token s.value (number_is (pos 0) (pos high) token s.value s.is))

pub offset_read : (high n : ℕ) → n ≤ high → n % 4 ≡ 0 → offset_in high (natural n) ≡ Ok n
offset_read high n most aligned = rw (natural_read high n most, eq-eqb (n % 4) 0 aligned) refl

-- the token is this number, and the number is a multiple of 4 up to high
pub record IsOffset (high : ℕ) (token : Token) (n : ℕ) : Type 0 where
  pub most : n ≤ high
  pub aligned : n % 4 ≡ 0
  pub is : token ≡ natural n

pub offset_is : (high : ℕ) (token : Token) (n : ℕ) → offset_in high token ≡ Ok n → IsOffset high token n
offset_is high token n e =
    let s = bind_ok (natural_in high token) _ n e in
    let is = natural_is high token s.value s.is in
    let t = ok_if (eqb (s.value % 4) 0) s.value n BadNumber s.next in
    subst (λ (m : ℕ). IsOffset high token m) t.1 (record { most = is.0; aligned = eqb-true (s.value % 4) 0 t.0; is = is.1 })

-- ---- labels

pub label_read : (immediate_of : List ℕ → Option ℤ) (name : List ℕ) (i : ℤ) → immediate_of name ≡ Some i → label_in immediate_of (Name name) ≡ Ok i
label_read immediate_of name i leads = ap (known NoLabel) leads

-- the token is a name that leads to this immediate
pub record IsLabel (immediate_of : List ℕ → Option ℤ) (token : Token) (i : ℤ) : Type 0 where
  pub name : List ℕ
  pub is : token ≡ Name name
  pub leads : immediate_of name ≡ Some i

pub label_is : (immediate_of : List ℕ → Option ℤ) (token : Token) (i : ℤ) → label_in immediate_of token ≡ Ok i → IsLabel immediate_of token i
label_is immediate_of (Name name) i e = record { name = name; is = refl; leads = known_is NoLabel (immediate_of name) i e }
label_is immediate_of (Number z) i e = absurd cc
label_is immediate_of (Mark mark) i e = absurd cc
