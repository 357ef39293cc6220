-- What lies in the slots, what a seat holds, and the views that begin and end.
use Rattle.std.specs.Prelude.{ℕ, ◌-◌, eqb, cond, true, false, List, [], ◌∷◌, length, Option, Some, None}
use mathlib.Core.Option as maybe
use Rattle.spur_turns.specs.declared.table.View.{View}
use Rattle.spur_turns.specs.declared.table.Item.{Item}
use Rattle.spur_turns.specs.declared.table.Item.TheVariants.{Bus, Place}

-- what a slot holds: nothing while its value is out
abbrev pub Slot : Type 0 → Type 0 → Type 0
Slot T P = Option (Item T P)

-- the slots of a table: each at home with its value, or held by a seat
abbrev pub Homes : Type 0 → Type 0 → Type 0
Homes T P = List (maybe.Option (Slot T P))

module _ {A : Type 0} where
  -- a stock has the values of the slots from 0 on, the last first: the k-th of them
  abbrev pub held_at : List A → ℕ → Option A
  held_at [] k = None
  held_at (y ∷ ys) k = cond (eqb k (length ys)) (Some y) (held_at ys k)

  -- a stock, each value with the number of its slot
  abbrev pub numbered : List A → List (ℕ × A)
  numbered [] = []
  numbered (y ∷ ys) = (length ys, y) ∷ numbered ys

  -- a stock without what was taken last
  abbrev pub under_top : List A → List A
  under_top [] = []
  under_top (y ∷ ys) = ys

module _ {T P : Type 0} where
  -- places that are taken one after another, on a stock
  abbrev pub stacked : List P → List (Slot T P) → List (Slot T P)
  stacked [] ys = ys
  stacked (p ∷ ps) ys = stacked ps (Some (Place p) ∷ ys)

  -- the stock of a seat that holds the bus and the first places
  abbrev pub stock_of : T → List P → List (Slot T P)
  stock_of t ps = stacked ps (Some (Bus t) ∷ [])

module _ {T P N : Type 0} where
  -- seat 0, before the first values are put in
  abbrev pub first_view : View T P N
  first_view = record {
    number = 0;
    live = true;
    seats = 1;
    opened = false;
    name = None;
    stock = [];
    own = None;
    met = 0;
    joined = [];
  }

  -- a seat that was joined into seat 0
  abbrev pub spent_view : View T P N
  spent_view = record {
    number = 0;
    live = false;
    seats = 0;
    opened = false;
    name = None;
    stock = [];
    own = None;
    met = 0;
    joined = [];
  }

  -- the seat that is split off seat 0, with the next number and the same name
  abbrev pub new_view : View T P N → View T P N
  new_view v = record {
    number = v.seats;
    live = true;
    seats = 0;
    opened = false;
    name = v.name;
    stock = [];
    own = None;
    met = 0;
    joined = [];
  }

  -- seat 0, with one more seat joined into it
  abbrev pub joined_view : View T P N → View T P N → View T P N
  joined_view v w = record v { seats = v.seats - 1; joined = w.name ∷ v.joined }
