-- One bit of the entry of a page is set or cleared.
use Rattle.std.specs.Prelude.{ℕ, ◌≡◌, ◌%◌, ◌^◌, ◌<◌, ⊤, true, length}
use Rattle.spur_addr.specs.Address.{entry_address_of, table_start}
use Rattle.spur_addr.specs.PageEntry.{is_valid}
use Rattle.spur_flat.specs.declared.flat.Flat.{Flat}
use Rattle.spur_flat.specs.History.{IsAllowed}
use Rattle.spur_snoop.specs.Protocol.{is_exclusive}
use Rattle.spur_bus.specs.Calls.{HasLine}
use Rattle.spur_pager.specs.declared.change.Change.{Change}
use Rattle.spur_pager.specs.declared.change.Change.TheVariants.{Dirty, In, Out, Referenced, Unreferenced}
use Rattle.spur_pager.specs.View.{View}
use Rattle.spur_pager.specs.Stand.{Stands, standing_flat}
use Rattle.spur_pager.specs.Changes.{changed_word, entry_for, hold_entry}
use Rattle.spur_pager.specs.Served.{hold_of}

-- the changes of one bit
abbrev pub IsMark : Change → Type 0
IsMark (Out slot) = ⊥
IsMark (In frame) = ⊥
IsMark change = ⊤

-- those of another bit than the leaving one
abbrev pub IsBit : Change → Type 0
IsBit Referenced = ⊤
IsBit Unreferenced = ⊤
IsBit Dirty = ⊤
IsBit change = ⊥

-- Board b may do it: g is the first byte of the page, the page is valid, and the history's entry is allowed.
pub record MayMark (w : View) (b g : ℕ) (change : Change) : Type 0 where
  pub is : IsBit change
  pub user : g < table_start
  pub starts : g % 2 ^ 12 ≡ 0
  pub within : b < length w.caches
  pub valid : is_valid (hold_entry (hold_of w) g) ≡ true
  pub allowed : (rest : Flat) → Stands rest w → IsAllowed (standing_flat rest w) (entry_for change b g)

-- the entry has the changed word, and its block is exclusive in cache b
pub record IsMarked (b g : ℕ) (change : Change) (w v : View) : Type 0 where
  pub word : hold_entry (hold_of v) g ≡ changed_word change (hold_entry (hold_of w) g)
  pub exclusive : HasLine v.caches b (entry_address_of g) is_exclusive
