-- Kinds of bytes, by their codes.
use Rattle.std.specs.Prelude.{ℕ, Bool, ◌||◌, ◌==◌}
use Rattle.std.specs.Char.{is_ascii_alphabetic, is_ascii_alphanumeric, is_ascii_digit}

-- a line feed ends a line
abbrev pub is_feed : ℕ → Bool
is_feed b = b == 10

-- `;` begins a comment
abbrev pub is_semicolon : ℕ → Bool
is_semicolon b = b == 59

-- space, tab and carriage return
abbrev pub is_blank : ℕ → Bool
is_blank b = b == 32 || b == 9 || b == 13

-- a name begins with a letter, `_` or `.`
abbrev pub is_name_start : ℕ → Bool
is_name_start b = is_ascii_alphabetic b || b == 95 || b == 46

-- and goes on with letters, digits and `_`
abbrev pub is_name_byte : ℕ → Bool
is_name_byte b = is_ascii_alphanumeric b || b == 95

-- a number begins with a digit or `-`
abbrev pub is_number_start : ℕ → Bool
is_number_start b = is_ascii_digit b || b == 45

-- and takes all letters and digits that follow
abbrev pub is_number_byte : ℕ → Bool
is_number_byte b = is_ascii_alphanumeric b

-- the marks `,` `:` `(` `)`
abbrev pub is_mark : ℕ → Bool
is_mark b = b == 44 || b == 58 || b == 40 || b == 41
