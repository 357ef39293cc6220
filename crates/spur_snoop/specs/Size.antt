-- How many boards share the bus, and how many lines the cache of each has.
use Rattle.std.specs.Prelude.{ℕ, ◌≡◌, ◌≤◌, ◌^◌}

-- one board or more, and twelve at most
pub record IsBoardCount (boards : ℕ) : Type 0 where
  pub some_boards : 1 ≤ boards
  pub few_boards : boards ≤ 12

-- a power of two from 16 to 4096
pub record IsLineCount (lines : ℕ) : Type 0 where
  pub exponent : ℕ
  pub power : lines ≡ 2 ^ exponent
  pub some_lines : 16 ≤ lines
  pub few_lines : lines ≤ 4096
