-- The entries that serving a fault appends.
use Rattle.std.proofs.Common.{◌≡◌, ℕ, ◌*◌, ◌%◌, ◌^◌, ◌<◌, refl, subst, List, [], ◌∷◌, ◌++◌, length, arith}
use Rattle.std.specs.List.{AllByRecursion}
use Rattle.spur_addr.specs.Address.{block_start_of, table_start}
use Rattle.spur_flat.specs.declared.entry.Entry.{Entry}
use Rattle.spur_flat.specs.declared.entry.Entry.TheVariants as entry
use Rattle.spur_pager.specs.declared.change.Change.{Change}
use Rattle.spur_pager.specs.declared.change.Change.TheVariants.{Referenced, Unreferenced, Dirty, Leaving, Out, In}
use Rattle.spur_flat.specs.Past.{Past}
use Rattle.spur_pager.specs.View.{View}
use Rattle.spur_pager.specs.Acts.{Hold}
use Rattle.spur_pager.specs.Changes.{Changes, entry_for}
use Rattle.spur_flat.specs.Formed.{IsMade}
use Rattle.spur_pager.specs.Served.{Keeps}
use Rattle.spur_walk.proofs.OpenedFacts.{all-push}
use Rattle.spur_flat.proofs.FormedFacts.{block_start_small, block_start_starts, made_append}

-- pieces one after another, where the number of caches stays
pub made_then : (b : ℕ) (w u : View) (some more : List Entry) → Keeps w u → AllByRecursion (IsMade b (length w.caches)) some
    → AllByRecursion (IsMade b (length u.caches)) more → AllByRecursion (IsMade b (length w.caches)) (some ++ more)
made_then b w u some more keeps first second =
    made_append b (length w.caches) some more first (subst (λ (n : ℕ). AllByRecursion (IsMade b n) more) keeps.boards second)

-- the flush of a block of a user's page
pub flush_made : (b holder boards g : ℕ) → b < boards → holder < boards → g < table_start → IsMade b boards (entry.BlockFlush b holder (block_start_of g))
flush_made b holder boards g within there user = record {
  board = refl;
  apart = λ (i : ℕ). refl;
  there = (within, there);
  small = let u : g < 255 * 2 ^ 30 = user in block_start_small g (omega arith);
  starts = block_start_starts g;
}

-- the pager's own entry for a change of the entry of the page that begins at g
change_made : (b boards g : ℕ) (change : Change) → b < boards → g < 2 ^ 38 → g % 2 ^ 12 ≡ 0 → IsMade b boards (entry_for change b g)
change_made b boards g Referenced within small starts = record { board = refl; apart = λ (i : ℕ). refl; there = within; small = small; starts = starts }
change_made b boards g Unreferenced within small starts = record { board = refl; apart = λ (i : ℕ). refl; there = within; small = small; starts = starts }
change_made b boards g Dirty within small starts = record { board = refl; apart = λ (i : ℕ). refl; there = within; small = small; starts = starts }
change_made b boards g Leaving within small starts = record { board = refl; apart = λ (i : ℕ). refl; there = within; small = small; starts = starts }
change_made b boards g (Out slot) within small starts = record { board = refl; apart = λ (i : ℕ). refl; there = within; small = small; starts = starts }
change_made b boards g (In frame) within small starts = record { board = refl; apart = λ (i : ℕ). refl; there = within; small = small; starts = starts }

-- the entries of one change
pub changes_made : (b g : ℕ) (change : Change) (from to : Hold) (before after : Past) → b < length from.caches → g < 2 ^ 38 → g % 2 ^ 12 ≡ 0 → (c : Changes b g change from before to after)
    → AllByRecursion (IsMade b (length from.caches)) (c.fetched ++ entry_for change b g ∷ [])
changes_made b g change from to before after within small starts c =
    all-push (IsMade b (length from.caches)) c.fetched (entry_for change b g) c.leads.made (change_made b (length from.caches) g change within small starts)
