-- The six changes of a page's entry: the word after each, and its entry of the history.
use Rattle.std.specs.Prelude.{ℕ, ◌≡◌, ◌+◌, ◌^◌, ◌<◌, ⊤, true, false, if◌then◌else◌, List, [], ◌∷◌, ◌++◌, length}
use Rattle.spur_addr.specs.PageEntry.{is_referenced, protection_of, swapped_of, with_bit}
use Rattle.spur_flat.specs.declared.entry.Entry.{Entry}
use Rattle.spur_flat.specs.declared.entry.Entry.TheVariants.{Leave, PageOut, PageIn, SetRef, SetDirty, ClearRef}
use Rattle.spur_flat.specs.Pager.{word_of, brought_entry}
use Rattle.spur_walk.specs.Tables.{logical_flat}
use Rattle.spur_pager.specs.declared.change.Change.{Change}
use Rattle.spur_pager.specs.declared.change.Change.TheVariants.{Referenced, Unreferenced, Dirty, Leaving, Out, In}
use Rattle.spur_flat.specs.Past.{Past}
use Rattle.spur_pager.specs.Acts.{Hold, IsFetch, written_in}
use Rattle.spur_pager.specs.Fetch.{Leads}
use Rattle.spur_pager.specs.Writes.{MayWrite, WritesEntry}

abbrev pub changed_word : Change → ℕ → ℕ
changed_word Referenced e = with_bit e 1 true
changed_word Unreferenced e = with_bit e 1 false
changed_word Dirty e = with_bit e 2 true
changed_word Leaving e = with_bit e 6 true
changed_word (Out slot) e = swapped_of slot (protection_of e)
changed_word (In frame) e = brought_entry frame e

abbrev pub entry_for : Change → ℕ → ℕ → Entry
entry_for Referenced b g = SetRef b g
entry_for Unreferenced b g = ClearRef b g
entry_for Dirty b g = SetDirty b g
entry_for Leaving b g = Leave b g
entry_for (Out slot) b g = PageOut b g
entry_for (In frame) b g = PageIn b g frame

-- the number that it names, where it names one, fits
abbrev pub is_small : Change → Type 0
is_small (Out slot) = slot < 2 ^ 20
is_small (In frame) = frame < 2 ^ 20
is_small change = ⊤

-- the word of the entry of the page of g
abbrev pub hold_entry : Hold → ℕ → ℕ
hold_entry h g = word_of (logical_flat h.caches h.memory) g

-- the changed entry may be written wherever the steps towards it lead
abbrev pub MayChange : ℕ → ℕ → Change → Hold → Type 0
MayChange b g change from = (fetched : List Entry) (mid : Hold) → Leads b g from fetched mid → MayWrite (logical_flat mid.caches mid.memory) mid.caches g (changed_word change (hold_entry mid g))

-- An entry was changed: its block was brought, its word was written in cache b, and the entries were appended.
pub record Changes (b g : ℕ) (change : Change) (from : Hold) (before : Past) (to : Hold) (after : Past) : Type 0 where
  pub fetched : List Entry
  pub mid : Hold
  pub fetch : IsFetch b g from fetched mid
  pub leads : Leads b g from fetched mid
  pub to_is : to ≡ written_in b g (changed_word change) mid
  pub writes : WritesEntry mid.caches mid.memory b g (changed_word change (hold_entry mid g)) to.caches
  pub entries : after.entries ≡ before.entries ++ (fetched ++ entry_for change b g ∷ [])
  pub room : after.room + length (fetched ++ entry_for change b g ∷ []) ≡ before.room

-- what the clock does with the entry that it looks at
abbrev pub clock_change : ℕ → Change
clock_change e = if is_referenced e then Unreferenced else Leaving

-- that, of the entry of the page of g as it stands
abbrev pub ticked : Hold → ℕ → Change
ticked h g = clock_change (hold_entry h g)

-- it may do that, and did
abbrev pub MayTick : ℕ → ℕ → Hold → Type 0
MayTick b g from = MayChange b g (ticked from g) from

abbrev pub Ticks : ℕ → ℕ → Hold → Past → Hold → Past → Type 0
Ticks b g from before to after = Changes b g (ticked from g) from before to after
