-- A history that grows.
use Rattle.std.specs.Prelude.{ℕ, List}
use Rattle.spur_flat.specs.declared.entry.Entry.{Entry}

-- the entries of a history, and how many more may be appended before memory is needed
pub record Past : Type 0 where
  pub entries : List Entry
  pub room : ℕ
