-- A text that is written into room which was taken for it.
use Rattle.std.specs.Prelude.{ℕ, List, ◌++◌}

-- the bytes that are written, and how many have room
pub record Written : Type 0 where
  pub items : List ℕ
  pub room : ℕ

-- with these bytes at its end
abbrev pub onto : Written → List ℕ → Written
onto text bytes = record text { items = text.items ++ bytes }
