-- A world: that it is good, what a merge of its logs makes of it, and what more room does.
use Rattle.std.specs.Prelude.{ℕ, ◌≡◌, ◌≤◌, List, ◌++◌, map}
use Rattle.spur_flat.specs.declared.entry.Entry.{Entry}
use Rattle.spur_cpu.specs.Meaning.{Meaning}
use Rattle.spur_swap.specs.Meaning.{Swap}
use Rattle.spur_core.specs.declared.world.Beginning.{Beginning}
use Rattle.spur_core.specs.declared.world.World.{World}
use Rattle.spur_core.specs.Boards.{emptied, whole}
use Rattle.spur_core.specs.Good.{IsGood}
use Rattle.spur_core.specs.Start.{Start}

-- what a beginning says
abbrev pub start_of : {C B S : Type 0} → (C → S) → (B → Swap) → Beginning C B → Start S
start_of state meaning b = record {
  flat = b.opening.value.flat;
  segs = b.opening.value.segs;
  options = b.opening.value.options;
  firsts = map state b.cpus.value.items;
  faults = (meaning b.backing.value).faults;
}

abbrev pub IsGoodWorld : {C B S : Type 0} → Meaning S → (C → S) → (C → ℕ) → (B → Swap) → World C B → Type 0
IsGoodWorld m state spare meaning w =
    IsGood m state spare meaning (start_of state meaning w.beginning) w.store w.boards.items

-- all logs are in the history, in board order behind what it had; nothing else has changed
pub record IsMerged {C B : Type 0} (old new : World C B) : Type 0 where
  pub boards : new.boards.items ≡ map emptied old.boards.items
  pub history : new.store.history.entries ≡ whole old.store old.boards.items
  pub store : new.store ≡ record old.store { history = new.store.history }

-- the history has no less spare room than it had; nothing else has changed
pub record IsRoomier {C B : Type 0} (old new : World C B) : Type 0 where
  pub room : old.store.history.room ≤ new.store.history.room
  pub only : new ≡ record old {
    store = record old.store { history = record old.store.history { room = new.store.history.room } };
  }

-- a history goes on from another
pub record IsPrefix (before after : List Entry) : Type 0 where
  pub more : List Entry
  pub is : after ≡ before ++ more
