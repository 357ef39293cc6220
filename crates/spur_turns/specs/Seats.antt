-- What holds of seats between two calls, at the beginning and at the end.
use Rattle.std.specs.Prelude.{◌≡◌, ◌⊎◌, ℕ, ◌+◌, ◌<◌, true, false, List, [], ◌∷◌, length, slice_get, Option, Some, None}
use mathlib.Core.Option.{some}
use lib.ListN.{get_elem?}
use Rattle.atomic_table.specs.Seated.{TableId}
use Rattle.spur_turns.specs.declared.table.View.{View}
use Rattle.spur_turns.specs.declared.table.Item.TheVariants.{Bus, Place}
use Rattle.spur_turns.specs.declared.table.Stowed.{Stowed}
use Rattle.spur_turns.specs.declared.shown.Holding.TheVariants.{Nothing}
use Rattle.spur_turns.specs.Views.{Slot}
use Rattle.spur_turns.specs.Room.{IsGoodWithRoom, name_with_room}
use Rattle.spur_turns.specs.Kinds.{Seated}
use Rattle.spur_turns.specs.Hands.{IsFree, emptied}
use Rattle.spur_turns.specs.Shown.{SeatView, TurnsView, seat_view}

-- What holds of a seat between two calls. Its hand has the slots that its view tells, and their values are out; it
-- holds its own place, or nothing, or the bus and every place; and it knows the name
pub record IsSeatKept {T P N : Type 0} (number : ℕ) (table : TableId) (v : View T P N) (hand : List (ℕ × Slot T P))
    : Type 0 where
  pub same : v.number ≡ number
  pub low : number + 1 < table.slots
  pub few : table.slots < 14
  pub words_are : table.words ≡ table.slots + 1
  pub live : v.live ≡ true
  pub seats_are : number ≡ 0 → v.seats + 1 ≡ table.slots
  pub joined_none : v.joined ≡ []
  pub all_or_none : (length v.stock ≡ 0) ⊎ (length v.stock ≡ table.slots)
  pub held : v.own ≡ None → hand ≡ emptied (length v.stock)
  pub own_held : (p : P) → v.own ≡ Some p → (hand ≡ (number + 1, None) ∷ []) × (v.stock ≡ [])
  pub named : (x : N) × (v.name ≡ Some x)

-- the seat number i of a table, which holds nothing
pub record IsIdle {P N : Type 0} (table : TableId) (i : ℕ) (s : SeatView P N) : Type 0 where
  pub table_is : s.table ≡ table
  pub number_is : s.number ≡ i
  pub nothing : s.holds ≡ Nothing

-- all seats of a table, in the order of their numbers, each holding nothing
pub record AreAllIdle {P N : Type 0} (turns : TurnsView) (seats : List (SeatView P N)) : Type 0 where
  pub many : length seats ≡ turns.places
  pub each : (i : ℕ) (s : SeatView P N) → slice_get seats i ≡ Some s → IsIdle turns.table i s

-- each seat has the name
pub record AreNamed {P N : Type 0} (x : N) (seats : List (SeatView P N)) : Type 0 where
  pub each : (i : ℕ) (s : SeatView P N) → slice_get seats i ≡ Some s → s.name ≡ Some x

-- no seat has met the bus yet
pub record HaveMetNone {P N : Type 0} (seats : List (SeatView P N)) : Type 0 where
  pub each : (i : ℕ) (s : SeatView P N) → slice_get seats i ≡ Some s → s.met ≡ 0

-- the seats of a table from number 1 on, each holding nothing
pub record AreOthers {P N : Type 0} (table : TableId) (seats : List (SeatView P N)) : Type 0 where
  pub each : (i : ℕ) (s : SeatView P N) → slice_get seats i ≡ Some s → IsIdle table (i + 1) s

-- seat 0 of a table, which holds nothing, with the others behind it in the list of all seats
pub record IsFront {T P N : Type 0} (table : TableId) (all : List (SeatView P N)) (seat_table : TableId)
    (me : Seated T P N) (others : List (SeatView P N)) : Type 0 where
  pub of_table : seat_table ≡ table
  pub words_are : table.words ≡ table.slots + 1
  pub free : IsFree me
  pub number_is : me.0.number ≡ 0
  pub seats_are : me.0.seats ≡ length others + 1
  pub joined_none : me.0.joined ≡ []
  pub named : (x : N) × (me.0.name ≡ Some x)
  pub are_others : AreOthers table others
  pub all_are : all ≡ seat_view table me.0 ∷ others

-- the view of a seat that was split off seat 0
abbrev pub later_view : {T P N : Type 0} → ℕ → Option N → View T P N
later_view i x = record {
  number = i;
  live = true;
  seats = 0;
  opened = false;
  name = x;
  stock = [];
  own = None;
  met = 0;
  joined = [];
}

-- seat 0 and the seats that were split off it so far, up to the number k
pub record AreSplit {T P N : Type 0} (table : TableId) (v : View T P N) (k : ℕ) (v' : View T P N)
    (hand : List (ℕ × Slot T P)) (seats : List (SeatView P N)) : Type 0 where
  pub view : v' ≡ record v { seats = k }
  pub hand_is : hand ≡ []
  pub many : length seats + 1 ≡ k
  pub each : (i : ℕ) (s : SeatView P N) → slice_get seats i ≡ Some s
      → s ≡ seat_view {T = T} table (later_view (i + 1) v.name)

-- what lies in the slots at the end: a bus of the name x, and the places in their order, which are good
pub record AreLast {T P N : Type 0} (good : T → List P → Type 0) (name : T → N) (xs : List (Slot T P)) (x : N)
    : Type 0 where
  pub bus : T
  pub places : List P
  pub many : length places + 1 ≡ length xs
  pub is_good : good bus places
  pub named : name bus ≡ x
  pub bus_is : get_elem? xs 0 ≡ some (Some (Bus bus))
  pub place_is : (i : ℕ) (p : P) → slice_get places i ≡ Some p → get_elem? xs (i + 1) ≡ some (Some (Place p))

-- the same of a pact's values, whose bus has the room for the places beside it
abbrev pub AreLastOf : {B P N : Type 0} → (B → List P → Type 0) → (B → N) → List (Slot (Stowed B P) P) → N → Type 0
AreLastOf good name xs x = AreLast (IsGoodWithRoom good) (name_with_room name) xs x
