-- The state stands again after a hit that writes.
use Rattle.std.specs.Prelude.{ℕ, ◌≡◌, ◌<◌, length}
use Rattle.spur_addr.specs.Address.{table_start}
use Rattle.spur_snoop.specs.declared.Need.TheVariants.{Write}
use Rattle.spur_flat.specs.declared.flat.Flat.{Flat}
use Rattle.spur_flat.specs.declared.entry.Entry.TheVariants as entry
use Rattle.spur_flat.specs.History.{on}
use Rattle.spur_bus.specs.Boards.{line_of_block}
use Rattle.spur_walk.specs.declared.looked.Looked.TheVariants.{Hit}
use Rattle.spur_walk.specs.Look.{look_of}
use Rattle.spur_walk.specs.Stores.{with_word_in}
use Rattle.spur_pager.specs.View.{View}
use Rattle.spur_pager.specs.Stand.{Stands, standing_flat}
use Rattle.spur_pager.specs.Again.{SharesSame}

-- the state stands again, and its flat state is the one after the entry of the store; with 1 for the value it is the
-- one after that of a test-and-set too
pub record StandsStored (rest : Flat) (w v : View) (b at value : ℕ) : Type 0 where
  pub stands : Stands rest v
  pub flat : standing_flat rest v ≡ on (standing_flat rest w) (entry.Store b at value)
  pub tas : (old : ℕ) → value ≡ 1 → standing_flat rest v ≡ on (standing_flat rest w) (entry.Tas b at old)

-- so it is where `look` answers Hit for a write, and the word is written in the board's own line
abbrev pub HitStandsAgain : Type 0
HitStandsAgain = (rest : Flat) (w v : View) (b at value : ℕ) → Stands rest w → b < length w.caches → at < table_start
    → look_of (line_of_block w.caches b at) Write ≡ Hit → v.caches ≡ with_word_in w.caches b at value
    → v.memory ≡ w.memory → SharesSame w v → StandsStored rest w v b at value
