-- What contracts see of a table and of a seat.
use Rattle.std.specs.Prelude.{ℕ, ◌-◌, List, [], ◌∷◌, map, Option, Some, None}
use base.Stored.{Coded, coded×, coded_ℕ, coded_via}
use Rattle.atomic_table.specs.Seated.{TableId, table_id_coded}
use Rattle.spur_turns.specs.declared.table.View.{View}
use Rattle.spur_turns.specs.declared.shown.Holding.{Holding}
use Rattle.spur_turns.specs.declared.shown.Holding.TheVariants.{Nothing, Own, Everything}
use Rattle.spur_turns.specs.declared.shown.SeatParts.{SeatParts}
use Rattle.spur_turns.specs.Views.{Slot}

-- which table it is, and how many places it has
pub record TurnsView : Type 0 where
  pub table : TableId
  pub places : ℕ

abbrev pub turns_view_coded : Coded TurnsView
turns_view_coded = coded_via (coded× table_id_coded coded_ℕ) (λ (t : TurnsView). (t.table, t.places))
    (λ x y e i. record { table = (e i).0; places = (e i).1 })

-- a table has one slot for the bus, and one for each place
abbrev pub turns_view : TableId → TurnsView
turns_view table = record { table = table; places = table.slots - 1 }

-- a seat's table, its number, its name, what it holds, and how often its tries met the bus
pub record SeatView (P N : Type 0) : Type 0 where
  pub table : TableId
  pub number : ℕ
  pub name : Option N
  pub holds : Holding P
  pub met : ℕ

abbrev pub seat_view_coded : {P N : Type 0} → Coded (SeatParts P N) → Coded (SeatView P N)
seat_view_coded {P} {N} c = coded_via (coded× table_id_coded c)
    (λ (s : SeatView P N). (s.table, record { number = s.number; name = s.name; holds = s.holds; met = s.met }))
    (λ x y e i. record {
      table = (e i).0;
      number = (e i).1.number;
      name = (e i).1.name;
      holds = (e i).1.holds;
      met = (e i).1.met;
    })

-- the names of seats
abbrev pub names_of : {P N : Type 0} → List (SeatView P N) → List (Option N)
names_of seats = map (λ s. s.name) seats

-- what a seat holds, of the place that it took by itself and of its stock
abbrev pub holding_of : {T P : Type 0} → Option P → List (Slot T P) → Holding P
holding_of (Some p) stock = Own p
holding_of None [] = Nothing
holding_of None (y ∷ ys) = Everything

-- what callers see of a seat of a table
abbrev pub seat_view : {T P N : Type 0} → TableId → View T P N → SeatView P N
seat_view table v = record {
  table = table;
  number = v.number;
  name = v.name;
  holds = holding_of v.own v.stock;
  met = v.met;
}
