-- What a step of a schedule does to the history.
use Rattle.std.specs.Prelude.{ℕ, ◌≡◌, List, slice_get, Some}
use Rattle.spur_cpu.specs.Meaning.{Meaning}
use Rattle.spur_board.specs.declared.board.Board.{Board}
use Rattle.spur_board.specs.declared.turn.BusReason.{BusReason}
use Rattle.spur_board.specs.Own.{Needs}
use Rattle.spur_core.specs.declared.world.World.{World}
use Rattle.spur_core.specs.Boards.{LogsAreEmpty}

-- board b takes its next instruction alone: there is no reason for which it needs the bus
pub record NeedsNoBus {C S : Type 0} (m : Meaning S) (state : C → S) (spare : C → ℕ) (boards : List (Board C)) (b : ℕ)
    : Type 0 where
  pub board : Board C
  pub there : slice_get boards b ≡ Some board
  pub none : (why : BusReason) → Needs m state spare why board → ⊥

-- a step joins no log to the history, which is as it was, or all logs, which are empty then
pub data MergesAllOrNone {C B : Type 0} (old new : World C B) : Type 0 where
  MergesNone : new.store.history.entries ≡ old.store.history.entries → MergesAllOrNone old new
  MergesAll : LogsAreEmpty new.boards.items → MergesAllOrNone old new
