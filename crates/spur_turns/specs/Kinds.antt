-- What each kind of step tells the seat that makes it: of the step, of the seat before, of the word that was found, and
-- of the seat after.
use Rattle.std.specs.Prelude.{◌≡◌, ◌≢◌, ℕ, ◌+◌, ◌<◌, true, List, [], ◌∷◌, length, map, Option, Some, None}
use Rattle.atomic_table.specs.Table.{Me, Step, rest}
use Rattle.spur_turns.specs.declared.table.View.{View}
use Rattle.spur_turns.specs.declared.table.Item.TheVariants.{Bus, Place}
use Rattle.spur_turns.specs.Views.{Slot, held_at, under_top, stock_of}

-- a seat of the table: its view, and the slots in its hand
abbrev pub Seated : Type 0 → Type 0 → Type 0 → Type 0
Seated T P N = Me (Slot T P) (View T P N)

-- the values in a hand
abbrev pub values_in : {A : Type 0} → List (ℕ × A) → List A
values_in hand = map (λ z. z.1) hand

module _ {T P N : Type 0} where
  -- A seat that holds nothing tried for its own place. Where the word was 0 it has the place, which is an own step
  -- after itself. Else the word was 2, so that the bus has it, and `met` rises
  pub record TriedOwn (own_step : ℕ → P → P → Type 0) (st : Step (Slot T P)) (me : Seated T P N) (found : ℕ)
      (me' : Seated T P N) : Type 0 where
    pub hit : found ≡ 0 → (p : P) × (me'.0 ≡ record me.0 { own = Some p })
        × (me'.1 ≡ (me.0.number + 1, Some (Place p)) ∷ []) × own_step me.0.number p p
    pub busy : found ≢ 0 → (found ≡ 2) × (me'.0 ≡ record me.0 { met = me.0.met + 1 }) × (me'.1 ≡ me.1)

  -- a seat gave its own place back
  pub record GaveOwn (st : Step (Slot T P)) (me : Seated T P N) (found : ℕ) (me' : Seated T P N) : Type 0 where
    pub view : me'.0 ≡ record me.0 { own = None }
    pub hand : me'.1 ≡ []

  -- one slot more is held, the next one, with the value y
  pub record HasPushed (y : Slot T P) (me me' : Seated T P N) : Type 0 where
    pub view : me'.0 ≡ record me.0 { stock = y ∷ me.0.stock }
    pub hand : me'.1 ≡ (length me.0.stock, y) ∷ me.1

  -- A seat that holds nothing tried for the bus. Before the first values are in, it finds it free and empty
  pub record TriedBus (good : T → List P → Type 0) (st : Step (Slot T P)) (me : Seated T P N) (found : ℕ)
      (me' : Seated T P N) : Type 0 where
    pub hit : found ≡ 0 → (y : Slot T P) × HasPushed y me me' × (me.0.name ≡ None → y ≡ None)
        × ((x : N) → me.0.name ≡ Some x → (t : T) × (ps : List P) × (y ≡ Some (Bus t)) × (length ps + 1 ≡ st.slots)
        × good t ps)
    pub miss : found ≢ 0 → me' ≡ me
    pub alone : me.0.name ≡ None → found ≡ 0

  -- A seat that holds the bus and the first places tried for the next one. Who holds all of them holds what is good
  pub record TriedPlace (good : T → List P → Type 0) (name : T → N) (st : Step (Slot T P)) (me : Seated T P N)
      (found : ℕ) (me' : Seated T P N) : Type 0 where
    pub hit : found ≡ 0 → (y : Slot T P) × HasPushed y me me' × (me.0.name ≡ None → y ≡ None)
        × ((x : N) → me.0.name ≡ Some x → (p : P) × (y ≡ Some (Place p)))
    pub whole : found ≡ 0 → (x : N) → me.0.name ≡ Some x → length me.0.stock + 1 ≡ st.slots → (t : T) (ps : List P)
        → me'.0.stock ≡ stock_of t ps → good t ps × (name t ≡ x)
    pub miss : found ≢ 0 → (me' ≡ me) × (found < 3)
    pub alone : me.0.name ≡ None → found ≡ 0

  -- what is in hand became current
  pub record Committed (st : Step (Slot T P)) (me : Seated T P N) (found : ℕ) (me' : Seated T P N) : Type 0 where
    pub view : me'.0 ≡ record me.0 { stock = values_in me.1 }
    pub hand : me'.1 ≡ me.1

  -- the name of a bus that lies in a slot
  abbrev pub name_in : (T → N) → Option (Slot T P) → Option N
  name_in name None = None
  name_in name (Some None) = None
  name_in name (Some (Some (Bus t))) = Some (name t)
  name_in name (Some (Some (Place p))) = None

  -- what is in hand became current for the first time
  pub record Opened (name : T → N) (st : Step (Slot T P)) (me : Seated T P N) (found : ℕ) (me' : Seated T P N)
      : Type 0 where
    pub view : me'.0 ≡ record me.0 {
      opened = true;
      name = name_in name (held_at (values_in me.1) 0);
      stock = values_in me.1;
    }
    pub hand : me'.1 ≡ me.1

  -- what was taken last went back
  pub record GaveBack (st : Step (Slot T P)) (me : Seated T P N) (found : ℕ) (me' : Seated T P N) : Type 0 where
    pub view : me'.0 ≡ record me.0 { stock = under_top me.0.stock }
    pub hand : me'.1 ≡ rest me.1
