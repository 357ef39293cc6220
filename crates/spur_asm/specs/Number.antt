-- How a number is read.
use Rattle.std.specs.Prelude.{ℕ, ◌+◌, ◌*◌, ◌&&◌, ◌==◌, nat_lt, nat_le, if◌then◌else◌, List, [], ◌∷◌, length, Option, Some, None, ℤ, pos, neg_ℤ}
use Rattle.std.specs.Option.{option_map}
use Rattle.std.specs.Char.{digit_value}

-- the number that these digits write behind those of n, if they are digits
abbrev pub digits_after : ℕ → ℕ → List ℕ → Option ℕ
digits_after radix n [] = Some n
digits_after radix n (c ∷ cs) = if nat_lt (digit_value c) radix then digits_after radix (n * radix + digit_value c) cs else None

-- the number of 1 to `most` digits
abbrev pub digits_of : ℕ → ℕ → List ℕ → Option ℕ
digits_of radix most ds = if nat_lt 0 (length ds) && nat_le (length ds) most then digits_after radix 0 ds else None

-- the number of `0x` and 1 to 8 hexadecimal digits, or of 1 to 10 decimal digits
abbrev pub magnitude_of : List ℕ → Option ℕ
magnitude_of (c ∷ x ∷ ds) = if c == 48 && x == 120 then digits_of 16 8 ds else digits_of 10 10 (c ∷ x ∷ ds)
magnitude_of ds = digits_of 10 10 ds

-- the number of an optional minus and a magnitude
abbrev pub numeral_value : List ℕ → Option ℤ
numeral_value [] = None
numeral_value (c ∷ cs) = if c == 45 then option_map (λ n. neg_ℤ (pos n)) (magnitude_of cs) else option_map (λ n. pos n) (magnitude_of (c ∷ cs))
