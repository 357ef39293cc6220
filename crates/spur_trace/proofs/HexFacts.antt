-- Hexadecimal numbers are read as they are written, and written as they are read.
use Rattle.std.proofs.Common.{◌≡◌, ◌∙◌, sym, ℕ, zero, suc, ◌+◌, ◌-◌, ◌*◌, ◌/◌, ◌%◌, ◌^◌, ◌<◌, ◌≤◌, Bool, true, false, ◌&&◌, cond, leb, List, [], ◌∷◌, ◌++◌, Option, Some, None, refl, ap, arith, inl, inr, ◌⊎◌, add-one}
use Rattle.std.specs.Char.{is_ascii_digit, digit_char}
use Rattle.std.proofs.lemmas.Bool.{and_from, and_parts, lt-ltb, le-ltb, leb-true, le-leb, cases_lt}
use Rattle.std.proofs.lemmas.Nat.{div-mul-add, mod-mul-add, mul-add-lt}
use Rattle.std.proofs.Math.Nat.{pow-suc, pow-succ', add-mul, mul_assoc, one-le-pow, pow-le-pow_right}
use Rattle.std.proofs.Math.Arith.{mod-mul}
use Rattle.std.proofs.lemmas.Option.{some_pair_parts}
use Rattle.spur_text.specs.Digits.{hex_digits}
use Rattle.spur_trace.specs.Reading.{hex_value, hex_digit_at, hex_on}
use Rattle.spur_trace.proofs.FrontFacts.{and_second, some_is}

-- ---- bounds

pub hex_more : (n d k : ℕ) → n < 16 ^ k → d < 16 → n * 16 + d < 16 ^ (k + 1)
hex_more n d k below digit = let more : 16 ^ (k + 1) ≡ 16 ^ k * 16 = rw add-one (pow-suc 16 k) in rw more (omega arith)

pub hex_few : (n k : ℕ) → n < 16 ^ k → k ≤ 10 → n < 2 ^ 40
hex_few n k below few =
    let some : 0 < 16 = omega arith in
    let h : 16 ^ k ≤ 16 ^ 10 = pow-le-pow_right some few in
    omega arith

-- ---- digits

-- a digit of this value
pub record IsHexDigit (c d : ℕ) : Type 0 where
  pub char : c ≡ digit_char d
  pub small : d < 16

low_digit : (c d : ℕ) → 48 ≤ c → c ≤ 57 → c - 48 ≡ d → IsHexDigit c d
low_digit c d low high e =
    let below : d < 10 = omega arith in
    record { char = rw (lt-ltb d 10 below) (omega arith); small = omega arith }

high_digit : (c d : ℕ) → 97 ≤ c → c ≤ 102 → c - 87 ≡ d → IsHexDigit c d
high_digit c d low high e =
    let above : 10 ≤ d = omega arith in
    record { char = rw (le-ltb d 10 above) (omega arith); small = omega arith }

value_step : (c d : ℕ) (s t : Bool) → (leb 48 c && leb c 57) ≡ s → (leb 97 c && leb c 102) ≡ t
    → cond s (Some (c - 48)) (cond t (Some (c - 87)) None) ≡ Some d → IsHexDigit c d
value_step c d true t low high e =
    let p = and_parts (leb 48 c) (leb c 57) low in
    low_digit c d (leb-true 48 c p.0) (leb-true c 57 p.1) (some_is (c - 48) d e)
value_step c d false true low high e =
    let p = and_parts (leb 97 c) (leb c 102) high in
    high_digit c d (leb-true 97 c p.0) (leb-true c 102 p.1) (some_is (c - 87) d e)
value_step c d false false low high e = absurd cc

pub value_is : (c d : ℕ) → hex_value c ≡ Some d → IsHexDigit c d
value_is c d e = value_step c d (leb 48 c && leb c 57) (leb 97 c && leb c 102) refl refl e

value_low : (d : ℕ) → d < 10 → hex_value (48 + d) ≡ Some d
value_low d small =
    let test : is_ascii_digit (48 + d) ≡ true = and_from (leb 48 (48 + d)) (leb (48 + d) 57) (le-leb 48 (48 + d) (omega arith)) (le-leb (48 + d) 57 (omega arith)) in
    let back : 48 + d - 48 ≡ d = omega arith in
    rw (test, back) refl

not_below : (a b : ℕ) → b < a → leb a b ≡ false
not_below a b lt = grind arith

value_high : (d : ℕ) → 10 ≤ d → d < 16 → hex_value (87 + d) ≡ Some d
value_high d large small =
    let low : is_ascii_digit (87 + d) ≡ false = and_second (leb 48 (87 + d)) (leb (87 + d) 57) (not_below (87 + d) 57 (omega arith)) in
    let high : (leb 97 (87 + d) && leb (87 + d) 102) ≡ true =
    and_from (leb 97 (87 + d)) (leb (87 + d) 102) (le-leb 97 (87 + d) (omega arith)) (le-leb (87 + d) 102 (omega arith)) in
    let back : 87 + d - 87 ≡ d = omega arith in
    rw (low, high, back) refl

value_cases : (d : ℕ) → d < 16 → (d < 10) ⊎ (10 ≤ d) → hex_value (digit_char d) ≡ Some d
value_cases d small (inl low) = let char : digit_char d ≡ 48 + d = rw (lt-ltb d 10 low) refl in ap hex_value char ∙ value_low d low
value_cases d small (inr high) = let char : digit_char d ≡ 87 + d = rw (le-ltb d 10 high) refl in ap hex_value char ∙ value_high d high small

pub value_again : (d : ℕ) → d < 16 → hex_value (digit_char d) ≡ Some d
value_again d small = value_cases d small (cases_lt d 10)

-- ---- written numbers are read

sixteen_more : (a d k r : ℕ) → (a * 16 + d) * 16 ^ k + r ≡ a * 16 ^ suc k + (d * 16 ^ k + r)
sixteen_more a d k r =
    let spread : (a * 16 + d) * 16 ^ k ≡ a * 16 * 16 ^ k + d * 16 ^ k = add-mul (a * 16) d (16 ^ k) in
    let power : 16 ^ suc k ≡ 16 * 16 ^ k = pow-succ' 16 k in
    let grouped : a * 16 * 16 ^ k ≡ a * (16 * 16 ^ k) = mul_assoc a 16 (16 ^ k) in
    let same : a * 16 * 16 ^ k ≡ a * 16 ^ suc k = grouped ∙ ap (λ (x : ℕ). a * x) (sym power) in
    rw spread (omega (arith, same))

low_part : (n k : ℕ) → n % 16 ^ suc k ≡ (n / 16 ^ k % 16) * 16 ^ k + n % 16 ^ k
low_part n k =
    let some : 0 < 16 ^ k = one-le-pow k 16 (omega arith) in
    ap (λ (x : ℕ). n % x) (pow-succ' 16 k) ∙ mod-mul n {m = 16} {c = 16 ^ k} (omega arith) some

pub hex_again : (k a n : ℕ) (rest : List ℕ) → hex_on k a (hex_digits k n ++ rest) ≡ Some (a * 16 ^ k + n % 16 ^ k, rest)
hex_again zero a n rest = let whole : a ≡ a * 1 + n % 1 = omega arith in ap (λ (x : ℕ). Some (x, rest)) whole
hex_again (suc k) a n rest =
    let d : ℕ = n / 16 ^ k % 16 in
    let small : n / 16 ^ k % 16 < 16 = omega arith in
    let first : hex_on (suc k) a (hex_digits (suc k) n ++ rest) ≡ hex_on k (a * 16 + n / 16 ^ k % 16) (hex_digits k n ++ rest) =
    rw (value_again (n / 16 ^ k % 16) small) refl in
    let more = hex_again k (a * 16 + n / 16 ^ k % 16) n rest in
    let sum : (a * 16 + n / 16 ^ k % 16) * 16 ^ k + n % 16 ^ k ≡ a * 16 ^ suc k + n % 16 ^ suc k =
    sixteen_more a (n / 16 ^ k % 16) k (n % 16 ^ k) ∙ ap (λ (x : ℕ). a * 16 ^ suc k + x) (sym (low_part n k)) in
    first ∙ (more ∙ ap (λ (x : ℕ). Some (x, rest)) sum)

-- ---- what is read is written so

-- v has k digits behind those of a
pub record HasDigits (k a v : ℕ) (bytes rest : List ℕ) : Type 0 where
  pub low : ℕ
  pub small : low < 16 ^ k
  pub sum : v ≡ a * 16 ^ k + low
  pub text_is : bytes ≡ hex_digits k v ++ rest

one_more : (k a d c v : ℕ) (bytes rest : List ℕ) → IsHexDigit c d → HasDigits k (a * 16 + d) v bytes rest → HasDigits (suc k) a v (c ∷ bytes) rest
one_more k a d c v bytes rest is tail =
    let some : 0 < 16 ^ k = one-le-pow k 16 (omega arith) in
    let front : v / 16 ^ k ≡ a * 16 + d = ap (λ (x : ℕ). x / 16 ^ k) tail.sum ∙ div-mul-add (a * 16 + d) (16 ^ k) tail.low tail.small in
    let digit : v / 16 ^ k % 16 ≡ d = let s = is.small in ap (λ (x : ℕ). x % 16) front ∙ mod-mul-add a 16 d s in
    record {
      low = d * 16 ^ k + tail.low;
      small = rw (pow-suc 16 k) (mul-add-lt d (16 ^ k) tail.low 16 is.small tail.small);
      sum = tail.sum ∙ sixteen_more a d k tail.low;
      text_is = rw (digit, sym is.char) (ap (λ (x : List ℕ). c ∷ x) tail.text_is);
    }

digit_step : (k a c v : ℕ) (bytes rest : List ℕ) (o : Option ℕ) → hex_value c ≡ o
    → ((d : ℕ) → hex_on k (a * 16 + d) bytes ≡ Some (v, rest) → HasDigits k (a * 16 + d) v bytes rest)
    → hex_on (suc k) a (c ∷ bytes) ≡ Some (v, rest) → HasDigits (suc k) a v (c ∷ bytes) rest
digit_step k a c v bytes rest None e tail h = absurd (let g : hex_on (suc k) a (c ∷ bytes) ≡ None = rw e refl in cc)
digit_step k a c v bytes rest (Some d) e tail h =
    let g : hex_on (suc k) a (c ∷ bytes) ≡ hex_on k (a * 16 + d) bytes = rw e refl in
    one_more k a d c v bytes rest (value_is c d e) (tail d (sym g ∙ h))

pub hex_is : (k a v : ℕ) (bytes rest : List ℕ) → hex_on k a bytes ≡ Some (v, rest) → HasDigits k a v bytes rest
hex_is zero a v bytes rest e =
    let p = some_pair_parts a v bytes rest e in
    record { low = 0; small = omega arith; sum = omega (arith, p.0); text_is = p.1 }
hex_is (suc k) a v [] rest e = absurd cc
hex_is (suc k) a v (c ∷ bytes) rest e = digit_step k a c v bytes rest (hex_value c) refl (λ d h. hex_is k (a * 16 + d) v bytes rest h) e

-- ---- a loop over the digits

one_left : (i k : ℕ) → i < k → k - i ≡ suc (k - (i + 1))
one_left i k lt = omega arith

pub hex_next : (k i n d : ℕ) (bytes rest : List ℕ) (whole : Option (ℕ × List ℕ)) → i < k → hex_digit_at bytes ≡ Some (d, rest)
    → hex_on (k - i) n bytes ≡ whole → hex_on (k - (i + 1)) (n * 16 + d) rest ≡ whole
hex_next k i n d bytes rest whole lt read so_far =
    let split : hex_on (k - i) n bytes ≡ hex_on (suc (k - (i + 1))) n bytes = ap (λ (x : ℕ). hex_on x n bytes) (one_left i k lt) in
    let step : hex_on (suc (k - (i + 1))) n bytes ≡ hex_on (k - (i + 1)) (n * 16 + d) rest = rw read refl in
    sym step ∙ (sym split ∙ so_far)
