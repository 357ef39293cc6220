-- What contracts see of the boards' caches and of what the boards share.
use Rattle.std.specs.Prelude.{ℕ, List, Option}
use Rattle.spur_cache.specs.declared.line.Line.{Line}
use Rattle.spur_cache.specs.Lens.{Lens, caches}
use Rattle.spur_flat.specs.declared.entry.Entry.{Entry}
use Rattle.spur_frames.specs.Frames.{Frames}
use Rattle.spur_swap.specs.Meaning.{Swap}
use Rattle.spur_pager.specs.declared.store.Store.{Store}

-- The caches; the words of the memory; the frame table; of the swap the told pages, the number of slots, and the counts of
-- faults, of reads and of writes; the history, and the spare room in it; and how many lines are flushed ahead of need.
pub record View : Type 0 where
  pub caches : List (List (Option Line))
  pub memory : List ℕ
  pub frames : Frames
  pub pages : Option (List ℕ)
  pub slots : ℕ
  pub faults : ℕ
  pub reads : ℕ
  pub writes : ℕ
  pub history : List Entry
  pub room : ℕ
  pub ahead : ℕ

-- these caches, and what is shared, where this is what the swap object means
abbrev pub view_of : {B : Type 0} → (B → Swap) → List (List (Option Line)) → Store B → View
view_of meaning lists store = record {
  caches = lists;
  memory = store.phys;
  frames = store.frames;
  pages = (meaning store.backing).pages;
  slots = (meaning store.backing).slots;
  faults = (meaning store.backing).faults;
  reads = (meaning store.backing).reads;
  writes = (meaning store.backing).writes;
  history = store.history.entries;
  room = store.history.room;
  ahead = store.ahead;
}

-- the same of the caches of boards
abbrev pub seen : {B : Type 0} → {X : Type 0} → (B → Swap) → Lens X → List X → Store B → View
seen meaning lens boards store = view_of meaning (caches lens boards) store
