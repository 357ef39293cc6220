-- Seats of a test, before and after their turns.
use Rattle.std.specs.Prelude.{◌≡◌}
use Rattle.atomic_table.specs.Seated.{TableId}
use Rattle.spur_turns.specs.declared.shown.Holding.TheVariants.{Nothing}
use Rattle.spur_turns.specs.Shown.{SeatView}

-- a seat of the table holds nothing
abbrev pub CanTurn : {P N : Type 0} → TableId → SeatView P N → Type 0
CanTurn table s = (s.table ≡ table) × (s.holds ≡ Nothing)

-- a seat is as before, but for how often it met the bus
pub record HasTurned {P N : Type 0} (before after : SeatView P N) : Type 0 where
  pub table : after.table ≡ before.table
  pub number : after.number ≡ before.number
  pub name : after.name ≡ before.name
  pub holds : after.holds ≡ before.holds
