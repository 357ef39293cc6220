-- Which kinds of bytes exclude or include one another.
use Rattle.std.proofs.Common.{◌≡◌, ℕ, ◌<◌, true, false, eqb, arith}
use Rattle.std.proofs.lemmas.Bool.Decides.{nat_tests}
use Rattle.std.specs.Char.{digit_value, is_ascii_digit}
use Rattle.spur_asm.specs.Bytes.{is_blank, is_mark, is_name_byte, is_name_start, is_number_byte, is_number_start, is_semicolon}

-- ---- blanks

pub blank_no_name_start : (b : ℕ) → is_blank b ≡ true → is_name_start b ≡ false
blank_no_name_start b e = grind (arith, nat_tests)

pub blank_no_number_start : (b : ℕ) → is_blank b ≡ true → is_number_start b ≡ false
blank_no_number_start b e = grind (arith, nat_tests)

pub blank_no_name_byte : (b : ℕ) → is_blank b ≡ true → is_name_byte b ≡ false
blank_no_name_byte b e = grind (arith, nat_tests)

pub blank_no_semicolon : (b : ℕ) → is_blank b ≡ true → is_semicolon b ≡ false
blank_no_semicolon b e = grind (arith, nat_tests)

-- ---- marks

pub mark_no_blank : (b : ℕ) → is_mark b ≡ true → is_blank b ≡ false
mark_no_blank b e = grind (arith, nat_tests)

pub mark_no_name_start : (b : ℕ) → is_mark b ≡ true → is_name_start b ≡ false
mark_no_name_start b e = grind (arith, nat_tests)

pub mark_no_number_start : (b : ℕ) → is_mark b ≡ true → is_number_start b ≡ false
mark_no_number_start b e = grind (arith, nat_tests)

pub mark_no_name_byte : (b : ℕ) → is_mark b ≡ true → is_name_byte b ≡ false
mark_no_name_byte b e = grind (arith, nat_tests)

pub mark_no_semicolon : (b : ℕ) → is_mark b ≡ true → is_semicolon b ≡ false
mark_no_semicolon b e = grind (arith, nat_tests)

-- ---- names

pub name_start_no_blank : (b : ℕ) → is_name_start b ≡ true → is_blank b ≡ false
name_start_no_blank b e = grind (arith, nat_tests)

pub name_start_no_semicolon : (b : ℕ) → is_name_start b ≡ true → is_semicolon b ≡ false
name_start_no_semicolon b e = grind (arith, nat_tests)

pub name_byte_no_semicolon : (b : ℕ) → is_name_byte b ≡ true → is_semicolon b ≡ false
name_byte_no_semicolon b e = grind (arith, nat_tests)

-- ---- numbers

pub number_start_no_blank : (b : ℕ) → is_number_start b ≡ true → is_blank b ≡ false
number_start_no_blank b e = grind (arith, nat_tests)

pub number_start_no_name_start : (b : ℕ) → is_number_start b ≡ true → is_name_start b ≡ false
number_start_no_name_start b e = grind (arith, nat_tests)

pub number_start_no_semicolon : (b : ℕ) → is_number_start b ≡ true → is_semicolon b ≡ false
number_start_no_semicolon b e = grind (arith, nat_tests)

pub number_byte_no_semicolon : (b : ℕ) → is_number_byte b ≡ true → is_semicolon b ≡ false
number_byte_no_semicolon b e = grind (arith, nat_tests)

-- what ends a name ends a number
pub no_number_byte : (b : ℕ) → is_name_byte b ≡ false → is_number_byte b ≡ false
no_number_byte b e = grind (arith, nat_tests)

-- ---- digits

pub decimal_is_digit : (c : ℕ) → digit_value c < 10 → is_ascii_digit c ≡ true
decimal_is_digit c few = grind (arith, nat_tests)

pub digit_no_minus : (c : ℕ) → is_ascii_digit c ≡ true → eqb c 45 ≡ false
digit_no_minus c e = grind (arith, nat_tests)

pub digit_no_x : (c : ℕ) → is_ascii_digit c ≡ true → eqb c 120 ≡ false
digit_no_x c e = grind (arith, nat_tests)

pub hexadecimal_is_number_byte : (c : ℕ) → digit_value c < 16 → is_number_byte c ≡ true
hexadecimal_is_number_byte c few = grind (arith, nat_tests)
