-- What is answered is carried: the access that is done, or its fault.
use Rattle.std.specs.Prelude.{ℕ, ◌≡◌, ◌^◌, ◌<◌, false, List, [], ◌∷◌, Option, None}
use Rattle.spur_addr.specs.Address.{is_aligned}
use Rattle.spur_cache.specs.declared.line.Line.{Line}
use Rattle.spur_flat.specs.declared.flat.Flat.{Flat}
use Rattle.spur_flat.specs.declared.access.AccessKind.{AccessKind}
use Rattle.spur_flat.specs.declared.access.FaultKind.TheVariants as fault
use Rattle.spur_flat.specs.declared.entry.Entry.{Entry}
use Rattle.spur_flat.specs.declared.entry.Entry.TheVariants as entry
use Rattle.spur_flat.specs.Blocks.{board_of}
use Rattle.spur_flat.specs.History.{on}
use Rattle.spur_flat.specs.Laws.{address_of}
use Rattle.spur_flat.specs.Needed.{lack_of, open_at}
use Rattle.spur_flat.specs.State.{Beside, IsCarried, served_beside}
use Rattle.spur_flat.specs.StateLaws.{IsAccess}
use Rattle.spur_flat.specs.Untold.{IsCarriedUntold}
use Rattle.spur_flat.specs.Validity.{IsValidFlat}
use Rattle.spur_bus.specs.Calls.{line_count, tags_of}
use Rattle.spur_bus.specs.Logical.{logical_words}
use Rattle.spur_bus.specs.Stand.{flat_of, state_of}
use Rattle.spur_walk.specs.Laws.{MayStand}
use Rattle.spur_walk.specs.Stores.{Stores, with_word_in}
use Rattle.spur_walk.specs.Tables.{logical_flat}

-- what an access or a fault leaves in the caches: the words of its flat state, each tag, and the number of lines
pub record LeavesBy (before after : List (List (Option Line))) (memory : List ℕ) (e : Entry) : Type 0 where
  pub logical : logical_words after memory ≡ (on (logical_flat before memory) e).words
  pub tags : tags_of after ≡ tags_of before
  pub lines : line_count after ≡ line_count before

-- Where an access or a fault may stand and is needed, it is carried from the state with this beside memory and lines
-- to the state where its board is served. Where the swap does not tell its pages, so it is from a valid state.
pub record AccessCarries (rest : Flat) (before after : List (List (Option Line))) (memory : List ℕ)
    (beside : Beside) (e : Entry) : Type 0 where
  pub told : IsCarried (state_of rest before memory beside)
      (state_of rest after memory (served_beside beside (board_of e))) (e ∷ [])
  pub untold : IsValidFlat (flat_of rest before memory) → address_of e < 2 ^ 38
      → IsCarriedUntold (state_of rest before memory beside)
      (state_of rest after memory (served_beside beside (board_of e))) (e ∷ [])

abbrev pub AccessIsCarried : Type 0
AccessIsCarried = (rest : Flat) (before after : List (List (Option Line))) (memory : List ℕ) (beside : Beside)
    (e : Entry) → IsAccess e → MayStand before memory e → lack_of (line_count before) beside.opened e ≡ None
    → LeavesBy before after memory e → AccessCarries rest before after memory beside e

-- a hit that writes leaves what a store leaves; and with the value 1, what a test-and-set does
pub record StoredLeaves (caches : List (List (Option Line))) (memory : List ℕ) (b at : ℕ) : Type 0 where
  pub store : (value : ℕ) → Stores caches memory b at value
      → LeavesBy caches (with_word_in caches b at value) memory (entry.Store b at value)
  pub tas : (old : ℕ) → Stores caches memory b at 1
      → LeavesBy caches (with_word_in caches b at 1) memory (entry.Tas b at old)

abbrev pub StoresLeaveBy : Type 0
StoresLeaveBy = (caches : List (List (Option Line))) (memory : List ℕ) (b at : ℕ) → StoredLeaves caches memory b at

-- an access whose address is not aligned may be answered so, wherever it is, and needs nothing to be open
pub record AlignStands (caches : List (List (Option Line))) (memory : List ℕ) (b at : ℕ) (kind : AccessKind)
    (beside : Beside) : Type 0 where
  pub stands : MayStand caches memory (entry.Fault b fault.Align kind at)
  pub needed : open_at beside.opened b ≡ []
      → lack_of (line_count caches) beside.opened (entry.Fault b fault.Align kind at) ≡ None

abbrev pub AlignMayStand : Type 0
AlignMayStand = (caches : List (List (Option Line))) (memory : List ℕ) (b at : ℕ) (kind : AccessKind)
    (beside : Beside) → is_aligned at ≡ false → AlignStands caches memory b at kind beside
