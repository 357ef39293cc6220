-- Decimal numbers are read as they are written, and written as they are read.
use Rattle.std.proofs.Common.{◌≡◌, ◌∙◌, sym, ℕ, zero, suc, ◌+◌, ◌-◌, ◌*◌, ◌/◌, ◌%◌, ◌^◌, ◌<◌, ◌≤◌, Bool, true, false, ◌&&◌, cond, ltb, leb, List, [], ◌∷◌, ◌++◌, Some, None, refl, ap, arith, append_assoc}
use Rattle.std.specs.Char.{is_ascii_digit}
use Rattle.std.specs.Fmt.{decimal}
use Rattle.std.proofs.lemmas.Bool.{and_from, and_parts, ltb-true, lt-ltb, le-ltb, leb-true, le-leb}
use Rattle.std.proofs.lemmas.Fmt.{decimal_digit, decimal_step, decimal_by_steps}
use Rattle.spur_trace.specs.Reading.{digits_on, number_on, number_at}
use Rattle.spur_trace.proofs.FrontFacts.{and_second, some_is}

digit_low : (c : ℕ) → is_ascii_digit c ≡ true → (48 ≤ c) × (c ≤ 57)
digit_low c e = let p = and_parts (leb 48 c) (leb c 57) e in (leb-true 48 c p.0, leb-true c 57 p.1)

digit_is : (d : ℕ) → d < 10 → is_ascii_digit (48 + d) ≡ true
digit_is d small = and_from (leb 48 (48 + d)) (leb (48 + d) 57) (le-leb 48 (48 + d) (omega arith)) (le-leb (48 + d) 57 (omega arith))

-- one digit more
decimal_more : (n c : ℕ) → 0 < n → n < 100000000 → 48 ≤ c → c ≤ 57 → decimal (n * 10 + (c - 48)) ≡ decimal n ++ c ∷ []
decimal_more n c some few low high =
    let step = decimal_step (n * 10 + (c - 48)) (omega arith) (omega arith) in
    let front : (n * 10 + (c - 48)) / 10 ≡ n = omega arith in
    let last : 48 + (n * 10 + (c - 48)) % 10 ≡ c = omega arith in
    step ∙ rw (front, last) refl

pair_is : {A B : Type 0} (a x : A) (b y : B) → ◌≡◌ {A = A × B} (a, b) (x, y) → (a ≡ x) × (b ≡ y)
pair_is a x b y e = (ap (λ p. p.0) e, ap (λ p. p.1) e)

on_step : (n c : ℕ) (bytes : List ℕ) (m : ℕ) (rest : List ℕ) (t : Bool) → (is_ascii_digit c && ltb n 100000000) ≡ t → 0 < n
    → (0 < n * 10 + (c - 48) → digits_on (n * 10 + (c - 48)) bytes ≡ (m, rest) → decimal (n * 10 + (c - 48)) ++ bytes ≡ decimal m ++ rest)
    → cond t (digits_on (n * 10 + (c - 48)) bytes) (n, c ∷ bytes) ≡ (m, rest) → decimal n ++ c ∷ bytes ≡ decimal m ++ rest
on_step n c bytes m rest false e some tail h = let p = pair_is n m (c ∷ bytes) rest h in rw (p.0, p.1) refl
on_step n c bytes m rest true e some tail h =
    let p = and_parts (is_ascii_digit c) (ltb n 100000000) e in
    let d = digit_low c p.0 in
    let more = decimal_more n c some (ltb-true n 100000000 p.1) d.0 d.1 in
    let regrouped : decimal n ++ c ∷ bytes ≡ (decimal n ++ c ∷ []) ++ bytes = sym (append_assoc (decimal n) (c ∷ []) bytes) in
    regrouped ∙ (ap (λ (x : List ℕ). x ++ bytes) (sym more) ∙ tail (omega arith) h)

digits_on_is : (bytes : List ℕ) (n m : ℕ) (rest : List ℕ) → 0 < n → digits_on n bytes ≡ (m, rest) → decimal n ++ bytes ≡ decimal m ++ rest
digits_on_is [] n m rest some e = let p = pair_is n m [] rest e in rw (p.0, p.1) refl
digits_on_is (c ∷ bytes) n m rest some e =
    on_step n c bytes m rest (is_ascii_digit c && ltb n 100000000) refl some (λ s h. digits_on_is bytes (n * 10 + (c - 48)) m rest s h) e

on_first : (d : ℕ) (bytes : List ℕ) (m : ℕ) (rest : List ℕ) → d < 10 → number_on d bytes ≡ (m, rest) → (48 + d) ∷ bytes ≡ decimal m ++ rest
on_first zero bytes m rest small e =
    let p = pair_is zero m bytes rest e in
    let one = decimal_digit 0 (omega arith) in
    ap (λ (x : List ℕ). x ++ bytes) (sym one) ∙ rw (p.0, p.1) refl
on_first (suc d) bytes m rest small e =
    let one = decimal_digit (suc d) small in
    ap (λ (x : List ℕ). x ++ bytes) (sym one) ∙ digits_on_is bytes (suc d) m rest (omega arith) e

number_step : (c : ℕ) (bytes : List ℕ) (m : ℕ) (rest : List ℕ) (t : Bool) → is_ascii_digit c ≡ t → number_at (c ∷ bytes) ≡ Some (m, rest) → c ∷ bytes ≡ decimal m ++ rest
unfolding number_at
number_step c bytes m rest false e h = absurd (let g : number_at (c ∷ bytes) ≡ None = rw e refl in cc)
number_step c bytes m rest true e h =
    let d = digit_low c e in
    let g : number_at (c ∷ bytes) ≡ Some (number_on (c - 48) bytes) = rw e refl in
    let is : number_on (c - 48) bytes ≡ (m, rest) = some_is (number_on (c - 48) bytes) (m, rest) (sym g ∙ h) in
    let first : 48 + (c - 48) ≡ c = omega (arith, d.0) in
    ap (λ (x : ℕ). x ∷ bytes) (sym first) ∙ on_first (c - 48) bytes m rest (omega (arith, d.1)) is

nothing_read : (m : ℕ) (rest : List ℕ) → number_at [] ≡ Some (m, rest) → ⊥
unfolding number_at
nothing_read m rest e = cc

pub number_is : (bytes : List ℕ) (m : ℕ) (rest : List ℕ) → number_at bytes ≡ Some (m, rest) → bytes ≡ decimal m ++ rest
number_is [] m rest e = absurd (nothing_read m rest e)
number_is (c ∷ bytes) m rest e = number_step c bytes m rest (is_ascii_digit c) refl e

-- ---- written numbers are read

abbrev ReadsOn : ℕ → List ℕ → Type 0
ReadsOn n ds = 0 < n → n < 10 ^ 9 → (rest : List ℕ) → number_at (ds ++ rest) ≡ Some (digits_on n rest)

number_on_some : (n : ℕ) (rest : List ℕ) → 0 < n → number_on n rest ≡ digits_on n rest
number_on_some zero rest some = absurd (omega arith)
number_on_some (suc n) rest some = refl

reads_one : (n : ℕ) → n < 10 → ReadsOn n ((48 + n) ∷ [])
unfolding number_at
reads_one n small some few rest =
    let back : 48 + n - 48 ≡ n = omega arith in
    rw (digit_is n small, back, number_on_some n rest some) refl

on_again : (n d : ℕ) (rest : List ℕ) → n < 100000000 → d < 10 → digits_on n ((48 + d) ∷ rest) ≡ digits_on (n * 10 + d) rest
on_again n d rest few small =
    let back : 48 + d - 48 ≡ d = omega arith in
    rw (digit_is d small, lt-ltb n 100000000 few, back) refl

reads_more : (n : ℕ) (ds : List ℕ) → 10 ≤ n → ReadsOn (n / 10) ds → ReadsOn n (ds ++ (48 + n % 10) ∷ [])
reads_more n ds large before some few rest =
    let regrouped : (ds ++ (48 + n % 10) ∷ []) ++ rest ≡ ds ++ (48 + n % 10) ∷ rest = append_assoc ds ((48 + n % 10) ∷ []) rest in
    let front = before (omega arith) (omega arith) ((48 + n % 10) ∷ rest) in
    let on = on_again (n / 10) (n % 10) rest (omega arith) (omega arith) in
    let whole : n / 10 * 10 + n % 10 ≡ n = omega arith in
    ap number_at regrouped ∙ (front ∙ (ap (λ (x : ℕ × List ℕ). Some x) on ∙ ap (λ (x : ℕ). Some (digits_on x rest)) whole))

reads_on : (n : ℕ) → n < 10 ^ 9 → ReadsOn n (decimal n)
reads_on n few = decimal_by_steps ReadsOn reads_one reads_more n (omega arith)

ends : (n c : ℕ) (rest : List ℕ) → is_ascii_digit c ≡ false → digits_on n (c ∷ rest) ≡ (n, c ∷ rest)
ends n c rest e = rw e refl

zero_again : (c : ℕ) (rest : List ℕ) → number_at (48 ∷ c ∷ rest) ≡ Some (0, c ∷ rest)
unfolding number_at
zero_again c rest = refl

pub number_again : (n c : ℕ) (rest : List ℕ) → n < 10 ^ 9 → is_ascii_digit c ≡ false → number_at (decimal n ++ c ∷ rest) ≡ Some (n, c ∷ rest)
number_again zero c rest few e =
    let one = decimal_digit 0 (omega arith) in
    ap (λ (x : List ℕ). number_at (x ++ c ∷ rest)) one ∙ zero_again c rest
number_again (suc n) c rest few e =
    reads_on (suc n) few (omega arith) few (c ∷ rest) ∙ ap (λ (x : ℕ × List ℕ). Some x) (ends (suc n) c rest e)

-- ---- nine digits are enough

full : (n c : ℕ) (bytes : List ℕ) → 100000000 ≤ n → digits_on n (c ∷ bytes) ≡ (n, c ∷ bytes)
full n c bytes large =
    let not : (is_ascii_digit c && ltb n 100000000) ≡ false = and_second (is_ascii_digit c) (ltb n 100000000) (le-ltb n 100000000 large) in
    rw not refl

pub digits_full : (n : ℕ) (bytes : List ℕ) → 100000000 ≤ n → digits_on n bytes ≡ (n, bytes)
digits_full n [] large = refl
digits_full n (c ∷ bytes) large = full n c bytes large
