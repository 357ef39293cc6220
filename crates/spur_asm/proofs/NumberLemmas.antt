-- The text of a number is read as this number, and what is read is one's text.
use Rattle.std.proofs.Common.{◌≡◌, ℕ, ◌+◌, ◌*◌, ◌<◌, ◌≤◌, Bool, true, false, ◌&&◌, cond, eqb, ltb, leb, List, [], ◌∷◌, length, Option, Some, None, refl, ap, arith, inl, inr, ℤ, pos, neg_ℤ}
use Rattle.std.proofs.lemmas.Bool.{and_from, and_parts, and_right, eqb-true, lt-ltb, le-leb, ltb-true, leb-true, or_left}
use Rattle.std.specs.Char.{digit_value, is_ascii_digit}
use Rattle.std.specs.List.{list_all}
use Rattle.std.specs.Option.{option_map}
use Rattle.std.specs.Str.Parse.{AllDigits, digits_value_after, digits_value}
use Rattle.spur_asm.specs.Bytes.{is_number_byte, is_number_start}
use Rattle.spur_asm.specs.Number.{digits_after, digits_of, magnitude_of, numeral_value}
use Rattle.spur_asm.specs.Spelling.{IsDigits, IsMagnitude, IsNumber}
use Rattle.spur_asm.proofs.ByteLemmas.{decimal_is_digit, digit_no_minus, digit_no_x, hexadecimal_is_number_byte}

-- ---- digits

digits_read : (radix n : ℕ) (ds : List ℕ) → AllDigits radix ds → digits_after radix n ds ≡ Some (digits_value_after radix n ds)
digits_read radix n [] digits = refl
digits_read radix n (c ∷ cs) digits = rw (lt-ltb (digit_value c) radix digits.0) (digits_read radix (n * radix + digit_value c) cs digits.1)

record HasDigits (radix n : ℕ) (ds : List ℕ) (v : ℕ) : Type 0 where
  digits : AllDigits radix ds
  value : v ≡ digits_value_after radix n ds

more_digits : (radix n c : ℕ) (cs : List ℕ) (v : ℕ) (b : Bool) → ((m : ℕ) → digits_after radix m cs ≡ Some v → HasDigits radix m cs v)
    → ltb (digit_value c) radix ≡ b → cond b (digits_after radix (n * radix + digit_value c) cs) None ≡ Some v → HasDigits radix n (c ∷ cs) v
more_digits radix n c cs v false tail b e = absurd cc
more_digits radix n c cs v true tail b e =
    let d = tail (n * radix + digit_value c) e in
    record { digits = (ltb-true (digit_value c) radix b, d.digits); value = d.value }

digits_are : (radix n : ℕ) (ds : List ℕ) (v : ℕ) → digits_after radix n ds ≡ Some v → HasDigits radix n ds v
digits_are radix n [] v e = record { digits = tt; value = cc }
digits_are radix n (c ∷ cs) v e = more_digits radix n c cs v (ltb (digit_value c) radix) (λ m. digits_are radix m cs v) refl e

few_read : (radix most : ℕ) (ds : List ℕ) → IsDigits radix most ds → digits_of radix most ds ≡ Some (digits_value radix ds)
few_read radix most ds d = rw (lt-ltb 0 (length ds) d.numeral.0, le-leb (length ds) most d.few) (digits_read radix 0 ds d.numeral.1)

if_some : {A : Type 0} (b : Bool) (o : Option A) (v : A) → cond b o None ≡ Some v → (b ≡ true) × (o ≡ Some v)
if_some true o v e = (refl, e)
if_some false o v e = absurd cc

few_are : (radix most : ℕ) (ds : List ℕ) (v : ℕ) → digits_of radix most ds ≡ Some v → IsDigits radix most ds × (v ≡ digits_value radix ds)
few_are radix most ds v e =
    let g = if_some (ltb 0 (length ds) && leb (length ds) most) (digits_after radix 0 ds) v e in
    let t = and_parts (ltb 0 (length ds)) (leb (length ds) most) g.0 in
    let d = digits_are radix 0 ds v g.1 in
    (record { numeral = (ltb-true 0 (length ds) t.0, d.digits); few = leb-true (length ds) most t.1 }, d.value)

-- ---- magnitudes

pub magnitude_read : (text : List ℕ) (n : ℕ) → IsMagnitude text n → magnitude_of text ≡ Some n
magnitude_read [] n (inl d) = rw d.value (few_read 10 10 [] d.are_digits)
magnitude_read (c ∷ []) n (inl d) = rw d.value (few_read 10 10 (c ∷ []) d.are_digits)
magnitude_read (c ∷ x ∷ ds) n (inl d) =
    rw (and_right (eqb c 48) (eqb x 120) (digit_no_x x (decimal_is_digit x d.are_digits.numeral.1.1.0)), d.value) (few_read 10 10 (c ∷ x ∷ ds) d.are_digits)
magnitude_read text n (inr h) = rw (h.is, h.value) (few_read 16 8 h.digits h.are_digits)

decimal_is : (text : List ℕ) (n : ℕ) → digits_of 10 10 text ≡ Some n → IsMagnitude text n
decimal_is text n e = let d = few_are 10 10 text n e in inl (record { are_digits = d.0; value = d.1 })

hexadecimal_or : (c x : ℕ) (ds : List ℕ) (n : ℕ) (b : Bool) → (eqb c 48 && eqb x 120) ≡ b
    → cond b (digits_of 16 8 ds) (digits_of 10 10 (c ∷ x ∷ ds)) ≡ Some n → IsMagnitude (c ∷ x ∷ ds) n
hexadecimal_or c x ds n false b e = decimal_is (c ∷ x ∷ ds) n e
hexadecimal_or c x ds n true b e =
    let p = and_parts (eqb c 48) (eqb x 120) b in
    let d = few_are 16 8 ds n e in
    let is : c ∷ x ∷ ds ≡ 48 ∷ 120 ∷ ds = rw (eqb-true c 48 p.0, eqb-true x 120 p.1) refl in
    inr (record { digits = ds; is = is; are_digits = d.0; value = d.1 })

pub magnitude_is : (text : List ℕ) (n : ℕ) → magnitude_of text ≡ Some n → IsMagnitude text n
magnitude_is [] n e = decimal_is [] n e
magnitude_is (c ∷ []) n e = decimal_is (c ∷ []) n e
magnitude_is (c ∷ x ∷ ds) n e = hexadecimal_or c x ds n (eqb c 48 && eqb x 120) refl e

-- ---- numbers

minus_of_positive : (c : ℕ) (cs : List ℕ) (n : ℕ) → IsMagnitude (c ∷ cs) n → eqb c 45 ≡ false
minus_of_positive c cs n (inl d) = digit_no_minus c (decimal_is_digit c d.are_digits.numeral.1.0)
minus_of_positive c cs n (inr h) = let first : c ≡ 48 = cc in rw first refl

pub number_read : (text : List ℕ) (z : ℤ) → IsNumber text z → numeral_value text ≡ Some z
number_read [] z (inl p) = absurd (let e = magnitude_read [] p.magnitude p.is_magnitude in cc)
number_read (c ∷ cs) z (inl p) =
    rw (minus_of_positive c cs p.magnitude p.is_magnitude, magnitude_read (c ∷ cs) p.magnitude p.is_magnitude, p.value) refl
number_read text z (inr m) = rw (m.is, magnitude_read m.more m.magnitude m.is_magnitude, m.value) refl

some_is : {A : Type 0} (x y : A) → Some x ≡ Some y → y ≡ x
some_is x y e = cc

minus_or : (c : ℕ) (cs : List ℕ) (z : ℤ) (b : Bool) (o p : Option ℕ) → eqb c 45 ≡ b → magnitude_of cs ≡ o → magnitude_of (c ∷ cs) ≡ p
    → cond b (option_map (λ n. neg_ℤ (pos n)) o) (option_map (λ n. pos n) p) ≡ Some z → IsNumber (c ∷ cs) z
minus_or c cs z true None p b q r e = absurd cc
minus_or c cs z true (Some v) p b q r e =
    let is : c ∷ cs ≡ 45 ∷ cs = ap (λ (x : ℕ). x ∷ cs) (eqb-true c 45 b) in
    inr (record { magnitude = v; more = cs; is = is; is_magnitude = magnitude_is cs v q; value = some_is (neg_ℤ (pos v)) z e })
minus_or c cs z false o None b q r e = absurd cc
minus_or c cs z false o (Some v) b q r e =
    inl (record { magnitude = v; is_magnitude = magnitude_is (c ∷ cs) v r; value = some_is (pos v) z e })

pub number_is : (text : List ℕ) (z : ℤ) → numeral_value text ≡ Some z → IsNumber text z
number_is [] z e = absurd cc
number_is (c ∷ cs) z e = minus_or c cs z (eqb c 45) (magnitude_of cs) (magnitude_of (c ∷ cs)) refl refl refl e

-- ---- the bytes of numbers

below_16 : (v radix : ℕ) → v < radix → radix ≤ 16 → v < 16
below_16 v radix below small = omega arith

digits_bytes : (radix : ℕ) (ds : List ℕ) → radix ≤ 16 → AllDigits radix ds → list_all is_number_byte ds ≡ true
digits_bytes radix [] small digits = refl
digits_bytes radix (c ∷ cs) small digits =
    let is_byte = hexadecimal_is_number_byte c (below_16 (digit_value c) radix digits.0 small) in
    and_from (is_number_byte c) (list_all is_number_byte cs) is_byte (digits_bytes radix cs small digits.1)

magnitude_bytes : (text : List ℕ) (n : ℕ) → IsMagnitude text n → list_all is_number_byte text ≡ true
magnitude_bytes text n (inl d) = digits_bytes 10 text (omega arith) d.are_digits.numeral.1
magnitude_bytes text n (inr h) = rw h.is (digits_bytes 16 h.digits (omega arith) h.are_digits.numeral.1)

-- a text of one byte with which a number begins, and such as go on with it
pub record IsNumberText (text : List ℕ) : Type 0 where
  pub first : ℕ
  pub more : List ℕ
  pub is : text ≡ first ∷ more
  pub starts : is_number_start first ≡ true
  pub goes_on : list_all is_number_byte more ≡ true

positive_text : (text : List ℕ) (n : ℕ) → IsMagnitude text n → IsNumberText text
positive_text [] n (inl d) = absurd (let some = d.are_digits.numeral.0 in omega arith)
positive_text (c ∷ cs) n (inl d) =
    let digits = d.are_digits.numeral.1 in
    record {
      first = c;
      more = cs;
      is = refl;
      starts = or_left (is_ascii_digit c) (eqb c 45) (decimal_is_digit c digits.0);
      goes_on = digits_bytes 10 cs (omega arith) digits.1;
    }
positive_text text n (inr h) =
    record { first = 48; more = 120 ∷ h.digits; is = h.is; starts = refl; goes_on = digits_bytes 16 h.digits (omega arith) h.are_digits.numeral.1 }

pub number_text : (text : List ℕ) (z : ℤ) → IsNumber text z → IsNumberText text
number_text text z (inl p) = positive_text text p.magnitude p.is_magnitude
number_text text z (inr m) =
    record { first = 45; more = m.more; is = m.is; starts = refl; goes_on = magnitude_bytes m.more m.magnitude m.is_magnitude }
