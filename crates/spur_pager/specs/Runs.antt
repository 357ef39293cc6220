-- Acts were done, from what was seen to what is seen.
use Rattle.std.specs.Prelude.{ℕ, ◌≡◌, ◌+◌, List, ◌++◌, length}
use Rattle.std.specs.List.{AllByRecursion}
use Rattle.spur_flat.specs.declared.flat.Flat.{Flat}
use Rattle.spur_flat.specs.declared.entry.Entry.{Entry}
use Rattle.spur_pager.specs.View.{View}
use Rattle.spur_pager.specs.Stand.{CarriesOn, Stands}
use Rattle.spur_pager.specs.Acts.{Act, IsDone}
use Rattle.spur_flat.specs.Formed.{IsMade}
use Rattle.spur_pager.specs.Served.{Keeps, hold_of}

-- the acts were done and their entries appended, each of a kind that serving makes; all that stays stays
pub record Runs (b : ℕ) (acts : List Act) (w v : View) : Type 0 where
  pub piece : List Entry
  pub history : v.history ≡ w.history ++ piece
  pub room : v.room + length piece ≡ w.room
  pub done : IsDone b acts (hold_of w) piece (hold_of v)
  pub made : AllByRecursion (IsMade b (length w.caches)) piece
  pub keeps : Keeps w v
  pub carries : (rest : Flat) → Stands rest w → CarriesOn rest w v piece
