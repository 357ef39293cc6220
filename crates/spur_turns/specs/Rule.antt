-- The lock rule: what holds of the table between any two steps.
-- Word 0 is the bus, word 1 counts commits, and word i + 2 is place i. Slot 0 is for the bus, slot i + 1 for place i.
-- A step reads the views by their number among all views, and a seat by the number that its view has.
use Rattle.std.specs.Prelude.{◌≡◌, ◌≢◌, ℕ, ◌+◌, ◌<◌, Bool, true, false, List, [], length, slice_index, slice_get, Some, None}
use Rattle.std.specs.List.{AllByRecursion}
use mathlib.Core.Option.{some}
use lib.ListN.{get_elem?}
use Rattle.atomic_table.specs.Table.{State}
use Rattle.spur_turns.specs.declared.table.View.{View}
use Rattle.spur_turns.specs.declared.table.Item.TheVariants.{Bus, Place}
use Rattle.spur_turns.specs.Views.{Slot, Homes, held_at}

-- how many words and slots there are for m places, and how much a seat may hold
pub record AreSized {T P : Type 0} (m : ℕ) (words : List ℕ) (homes : Homes T P) (held : List (Slot T P)) : Type 0 where
  pub words_are : length words ≡ m + 2
  pub slots_are : length homes ≡ m + 1
  pub held_are : length held < m + 2

-- what seat 0 knows of all: how many seats are live, and whether the first values are in
pub record IsFirst {T P N : Type 0} (seats : ℕ) (opened : Bool) (f : View T P N) : Type 0 where
  pub live : f.live ≡ true
  pub number : f.number ≡ 0
  pub seats_are : f.seats ≡ seats
  pub opened_is : f.opened ≡ opened

-- Seats are numbered: the numbers of the live views are those below `seats`, each once, and seat 0 is the first view.
-- The seat of number i has the view `stands i`. A joined view is spent and holds nothing
pub record SeatsAreNumbered {T P N : Type 0} (seats : ℕ) (opened : Bool) (stands : ℕ → ℕ) (views : List (View T P N))
    : Type 0 where
  pub some_view : 0 < length views
  pub first : (f : View T P N) → get_elem? views 0 ≡ some f → IsFirst seats opened f
  pub live_number : (j : ℕ) (v : View T P N) → get_elem? views j ≡ some v → v.live ≡ true
      → (v.number < seats) × (stands v.number ≡ j)
  pub number_live : (i : ℕ) → i < seats → (v : View T P N) × (get_elem? views (stands i) ≡ some v)
      × (v.live ≡ true) × (v.number ≡ i)
  pub spent : (j : ℕ) (v : View T P N) → get_elem? views j ≡ some v → v.live ≡ false → (v.stock ≡ []) × (v.own ≡ None)

-- The bus word: it is 1 where exactly one view holds the bus, and 0 where none does. That view is `holder`, and `held`
-- is what it holds, the bus and the first places
pub record BusWord {T P N : Type 0} (words : List ℕ) (views : List (View T P N)) (holder : ℕ) (held : List (Slot T P))
    : Type 0 where
  pub free : slice_index words 0 ≡ 0 → length held ≡ 0
  pub taken : slice_index words 0 ≢ 0 → (slice_index words 0 ≡ 1) × (0 < length held)
  pub one_holder : (j : ℕ) (v : View T P N) → get_elem? views j ≡ some v → 0 < length v.stock
      → (j ≡ holder) × (v.stock ≡ held)
  pub holder_holds : 0 < length held → (v : View T P N) × (get_elem? views holder ≡ some v) × (v.stock ≡ held)

-- the word of place i: 2 exactly where the view that holds the bus holds the place
pub record PlaceWord {T P : Type 0} (words : List ℕ) (held : List (Slot T P)) (i : ℕ) : Type 0 where
  pub under : slice_index words (i + 2) < 3
  pub for_bus : slice_index words (i + 2) ≡ 2 → i + 1 < length held
  pub of_bus : i + 1 < length held → slice_index words (i + 2) ≡ 2

-- The place words: word 2 + i is 0 where no view holds place i, 1 where seat i holds it as its own, and 2 where the
-- view that holds the bus holds it
pub record PlaceWords {T P N : Type 0} (m : ℕ) (words : List ℕ) (views : List (View T P N)) (stands : ℕ → ℕ)
    (held : List (Slot T P)) : Type 0 where
  pub each : (i : ℕ) → i < m → PlaceWord words held i
  pub of_own : (j : ℕ) (v : View T P N) (p : P) → get_elem? views j ≡ some v → v.own ≡ Some p
      → (v.number < m) × (slice_index words (v.number + 2) ≡ 1) × (v.stock ≡ [])
  pub for_own : (i : ℕ) → i < m → slice_index words (i + 2) ≡ 1
      → (v : View T P N) × (p : P) × (get_elem? views (stands i) ≡ some v) × (v.own ≡ Some p) × (v.number ≡ i)

-- the current value of each slot: the one at home where no view holds it, and else the one in the view that does
pub record AreCurrent {T P N : Type 0} (m : ℕ) (words : List ℕ) (homes : Homes T P) (views : List (View T P N))
    (held : List (Slot T P)) (current : ℕ → Slot T P) : Type 0 where
  pub bus_home : slice_index words 0 ≡ 0 → get_elem? homes 0 ≡ some (some (current 0))
  pub place_home : (i : ℕ) → i < m → slice_index words (i + 2) ≡ 0
      → get_elem? homes (i + 1) ≡ some (some (current (i + 1)))
  pub of_holder : (k : ℕ) (y : Slot T P) → held_at held k ≡ Some y → current k ≡ y
  pub of_own : (j : ℕ) (v : View T P N) (p : P) → get_elem? views j ≡ some v → v.own ≡ Some p
      → current (v.number + 1) ≡ Some (Place p)

-- before the first values are put in: seat 0 is the one live view and has no name, and every value is empty
pub record AreEmpty {T P N : Type 0} (seats m : ℕ) (views : List (View T P N)) (current : ℕ → Slot T P) : Type 0 where
  pub alone : seats ≡ 1
  pub empty : (k : ℕ) → k < m + 1 → current k ≡ None
  pub nameless : (f : View T P N) → get_elem? views 0 ≡ some f → (f.name ≡ None) × (f.joined ≡ [])

-- the current values are good: each is there, and bus and places, in the order of the places, are good
pub record ValuesAreGood {T P : Type 0} (good : T → List P → Type 0) (m : ℕ) (current : ℕ → Slot T P) : Type 0 where
  pub bus : T
  pub places : List P
  pub many : length places ≡ m
  pub is_good : good bus places
  pub bus_is : current 0 ≡ Some (Bus bus)
  pub place_is : (i : ℕ) (p : P) → slice_get places i ≡ Some p → current (i + 1) ≡ Some (Place p)

-- a live view knows the name x, as did those that were joined into it
pub record KnowsName {T P N : Type 0} (x : N) (v : View T P N) : Type 0 where
  pub own_name : v.live ≡ true → v.name ≡ Some x
  pub joined_names : v.live ≡ true → AllByRecursion (λ y. y ≡ Some x) v.joined

-- one name: all live views have the same, and it is the name of the bus's current value
pub record OneName {T P N : Type 0} (name : T → N) (views : List (View T P N)) (bus_slot : Slot T P) : Type 0 where
  pub each : (t : T) → bus_slot ≡ Some (Bus t) → (j : ℕ) (v : View T P N) → get_elem? views j ≡ some v
      → KnowsName (name t) v

-- the lock rule, for any relation `good` and any names
pub record IsKept {T P N : Type 0} (good : T → List P → Type 0) (name : T → N) (s : State (Slot T P) (View T P N))
    : Type 0 where
  -- how many places and live seats there are, and whether the first values are in
  pub places : ℕ
  pub seats : ℕ
  pub opened : Bool
  -- where the view of each seat stands, and that of the seat that holds the bus
  pub stands : ℕ → ℕ
  pub holder : ℕ
  -- what that seat holds, and the current value of each slot
  pub held : List (Slot T P)
  pub current : ℕ → Slot T P
  pub sized : AreSized places s.words s.homes held
  pub are_current : AreCurrent places s.words s.homes s.views held current
  -- the five parts, the last two once the first values are in
  pub seats_are_numbered : SeatsAreNumbered seats opened stands s.views
  pub bus_word : BusWord s.words s.views holder held
  pub place_words : PlaceWords places s.words s.views stands held
  pub values_are_good : opened ≡ true → ValuesAreGood good places current
  pub one_name : opened ≡ true → OneName name s.views (current 0)
  -- what stands in place of these two before
  pub values_are_empty : opened ≡ false → AreEmpty seats places s.views current
