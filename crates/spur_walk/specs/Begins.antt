-- What the tests look for before they begin.
use Rattle.std.specs.Prelude.{ℕ, ◌==◌, ◌&&◌, ◌||◌, not, Bool}
use Rattle.spur_addr.specs.PageEntry.{is_valid, number_of}

-- a root entry is zero, or the word 40017 (hexadecimal), which names frame 64; and the entry of page 0, where it is valid,
-- names frame 65
abbrev pub may_begin : ℕ → ℕ → Bool
may_begin root entry = ((root == 0) || (root == 262167)) && (not (is_valid entry) || (number_of entry == 65))
