-- Numbers in a fixed number of lower-case hexadecimal digits.
use Rattle.std.specs.Prelude.{ℕ, zero, suc, ◌/◌, ◌%◌, ◌^◌, List, [], ◌∷◌}
use Rattle.std.specs.Char.{digit_char}

-- the last hexadecimal digits of n, so many of them, the highest first
abbrev pub hex_digits : ℕ → ℕ → List ℕ
hex_digits zero n = []
hex_digits (suc count) n = digit_char (n / 16 ^ count % 16) ∷ hex_digits count n

-- a word in 8 lower-case hexadecimal digits
unfoldable pub word_digits : ℕ → List ℕ
word_digits n = hex_digits 8 n

-- a global address in 10 lower-case hexadecimal digits
unfoldable pub address_digits : ℕ → List ℕ
address_digits at = hex_digits 10 at
