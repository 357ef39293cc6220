-- What contracts see of the source and the sink in memory.
use Rattle.std.specs.Prelude.{ℕ, List}
use Rattle.spur_io.specs.Calls.{Calls}
use Rattle.spur_io.specs.Store.{Store}

-- a source's bytes left, how many a call moves at most, and its calls
pub record Supply : Type 0 where
  pub left : List ℕ
  pub piece : ℕ
  pub calls : Calls

-- a sink's bytes, how many a call moves at most, and its calls
pub record Room : Type 0 where
  pub store : Store
  pub piece : ℕ
  pub calls : Calls
