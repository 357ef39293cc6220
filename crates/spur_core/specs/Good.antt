-- A good world, over its beginning, what its boards share, and the list of its boards.
use Rattle.std.specs.Prelude.{ℕ, ◌≡◌, ◌+◌, ◌≤◌, List, length, Some}
use Rattle.std.specs.List.{AllByRecursion}
use Rattle.spur_flat.specs.declared.entry.Entry.{Entry}
use Rattle.spur_flat.specs.Formed.{IsFormed}
use Rattle.spur_flat.specs.State.{IsCarried, State}
use Rattle.spur_flat.specs.Untold.{LeadsUntold}
use Rattle.spur_cpu.specs.Meaning.{Meaning}
use Rattle.spur_frames.specs.Frames.{AreFrames}
use Rattle.spur_swap.specs.Meaning.{Swap}
use Rattle.spur_pager.specs.declared.store.Store.{Store}
use Rattle.spur_pager.specs.Stand.{Stands, standing_state}
use Rattle.spur_pager.specs.View.{View}
use Rattle.spur_board.specs.declared.board.Board.{Board}
use Rattle.spur_core.specs.Boards.{AreBoardLogs, swap_count, view_in, whole}
use Rattle.spur_core.specs.Start.{HasSettings, IsStart, Start, opened_state}
use Rattle.spur_core.specs.Programs.{FollowPrograms}

-- A history leads from a state to the one that stands: where the swap tells its pages, with all values; and in each
-- case but for the values that were read. It is legal, tagged and needed, the tags after it are the caches', and
-- nothing is open.
pub record HasLed (from : State) (w : View) (history : List Entry) : Type 0 where
  pub told : (words : List ℕ) → w.pages ≡ Some words → IsCarried from (standing_state from.flat w) history
  pub untold : LeadsUntold from.flat from (standing_state from.flat w) history

module _ {C S : Type 0} (m : Meaning S) (state : C → S) (spare : C → ℕ) where
  pub record IsGood {B : Type 0} (meaning : B → Swap) (start : Start S) (store : Store B) (boards : List (Board C))
      : Type 0 where
    -- the whole history is legal, tagged and needed; tags agree; open lists are empty
    pub history : HasLed (opened_state start) (view_in meaning store boards) (whole store boards)
    pub formed : AllByRecursion (IsFormed (length boards)) (whole store boards)
    -- words and owners agree; lines of present pages; frame table; clean pages match their slots
    pub stands : Stands start.flat (view_in meaning store boards)
    pub table : AreFrames store.frames
    -- local logs
    pub logs : AreBoardLogs boards
    -- boards follow their programs
    pub programs : FollowPrograms m state spare start (whole store boards) boards
    -- swap faults are counted
    pub swaps : swap_count boards + start.faults ≤ (meaning store.backing).faults
    -- the beginning, and the store's settings
    pub begins : IsStart m start (length boards)
    pub settings : HasSettings start.options store
