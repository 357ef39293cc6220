-- Seats of boards, before and after their turns.
use Rattle.std.specs.Prelude.{◌≡◌, ◌<◌}
use Rattle.spur_turns.specs.Shown.{SeatView, TurnsView}
use Rattle.spur_turns.specs.declared.shown.Holding.TheVariants.{Nothing}

-- a seat of this table, which holds nothing, and whose number is that of a place
pub record MayTurn {P N : Type 0} (turns : TurnsView) (s : SeatView P N) : Type 0 where
  pub table : s.table ≡ turns.table
  pub nothing : s.holds ≡ Nothing
  pub low : s.number < turns.places

-- a seat is as before, but for how often it met the bus
pub record IsAgain {P N : Type 0} (before after : SeatView P N) : Type 0 where
  pub table : after.table ≡ before.table
  pub number : after.number ≡ before.number
  pub name : after.name ≡ before.name
  pub holds : after.holds ≡ before.holds
