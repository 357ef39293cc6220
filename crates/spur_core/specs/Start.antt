-- What a world keeps of its beginning.
use Rattle.std.specs.Prelude.{ℕ, ◌≡◌, ◌≢◌, ◌<◌, List, length, slice_get, Some}
use Rattle.spur_addr.specs.Address.{global_of, table_start}
use Rattle.spur_flat.specs.declared.flat.Flat.{Flat}
use Rattle.spur_flat.specs.State.{State, opening_state}
use Rattle.spur_flat.specs.Validity.{IsValidFlat}
use Rattle.spur_cpu.specs.declared.cpu.Want.TheVariants.{Ended}
use Rattle.spur_cpu.specs.Meaning.{IsLawful, Meaning}
use Rattle.spur_loader.specs.declared.opening.Options.{Options}
use Rattle.spur_pager.specs.declared.store.Store.{Store}

-- what a beginning says, where processors are in states of S: the opening's flat state, segment registers and options;
-- the processors' first states; and how many faults the swap had counted
pub record Start (S : Type 0) : Type 0 where
  pub flat : Flat
  pub segs : List (List ℕ)
  pub options : Options
  pub firsts : List S
  pub faults : ℕ

-- the state before all entries: no cache has a line, and nothing is open
abbrev pub opened_state : {S : Type 0} → Start S → State
opened_state start = opening_state (length start.segs) start.options.lines start.flat

-- What is asked of a beginning with so many boards: its flat state is valid, each board has segment registers and a
-- first state, no register leads to the page table, some budget is given, and each processor wants something at first.
-- Of the processors' meaning it is asked what holds of each.
pub record IsStart {S : Type 0} (m : Meaning S) (start : Start S) (boards : ℕ) : Type 0 where
  pub valid : IsValidFlat start.flat
  pub firsts : length start.firsts ≡ boards
  pub segs : length start.segs ≡ boards
  pub low : (i va : ℕ) (segs : List ℕ) → slice_get start.segs i ≡ Some segs → global_of segs va < table_start
  pub budget : 0 < start.options.budget
  pub wants : (i : ℕ) (first : S) → slice_get start.firsts i ≡ Some first → m.wants first ≢ Ended
  pub lawful : IsLawful m

-- the settings of what boards share are those of the options
pub record HasSettings {B : Type 0} (options : Options) (store : Store B) : Type 0 where
  pub ahead : store.ahead ≡ options.ahead
