-- What a seat has in hand between the steps of a call.
use Rattle.std.specs.Prelude.{◌≡◌, ℕ, zero, suc, ◌+◌, ◌≤◌, true, List, [], ◌∷◌, ◌++◌, length, Option, Some, None, vec_capacity}
use Rattle.std.specs.declared.alloc.Global.{Global}
use Rattle.std.specs.declared.vec.Vec.{Vec}
use Rattle.spur_turns.specs.declared.table.View.{View}
use Rattle.spur_turns.specs.declared.table.Item.TheVariants.{Bus, Place}
use Rattle.spur_turns.specs.declared.table.Stowed.{Stowed}
use Rattle.spur_turns.specs.Views.{Slot, numbered, stock_of}
use Rattle.spur_turns.specs.Room.{HasRoom}
use Rattle.spur_turns.specs.Kinds.{Seated}

-- the slots below n, whose values are out, the last first
abbrev pub emptied : {A : Type 0} → ℕ → List (ℕ × Option A)
emptied zero = []
emptied (suc n) = (n, None) ∷ emptied n

-- the view is as it was but for the stock
abbrev pub SameButStock : {T P N : Type 0} → View T P N → View T P N → Type 0
SameButStock v w = w ≡ record v { stock = w.stock }

-- a live seat that holds nothing
pub record IsFree {T P N : Type 0} (me : Seated T P N) : Type 0 where
  pub live : me.0.live ≡ true
  pub stock : me.0.stock ≡ []
  pub own : me.0.own ≡ None
  pub hand : me.1 ≡ []

-- a live seat that holds the slots below k, whose values are out
pub record HoldsFirst {T P N : Type 0} (k : ℕ) (me : Seated T P N) : Type 0 where
  pub live : me.0.live ≡ true
  pub tall : length me.0.stock ≡ k
  pub own : me.0.own ≡ None
  pub hand : me.1 ≡ emptied k

-- a live seat that holds k slots, with the values in hand that its view has
pub record IsReady {T P N : Type 0} (k : ℕ) (me : Seated T P N) : Type 0 where
  pub live : me.0.live ≡ true
  pub tall : length me.0.stock ≡ k
  pub own : me.0.own ≡ None
  pub hand : me.1 ≡ numbered me.0.stock

-- the bus was taken
pub record TookBus {B P N : Type 0} (slots : ℕ) (t : Stowed B P) (me me' : Seated (Stowed B P) P N) : Type 0 where
  pub view : me'.0 ≡ record me.0 { stock = Some (Bus t) ∷ [] }
  pub hand : me'.1 ≡ emptied 1
  pub room : (n : ℕ) → n + 1 ≡ slots → HasRoom n t.room

-- the next place was taken
pub record TookPlace {B P N : Type 0} (good : B → List P → Type 0) (name : B → N) (slots next : ℕ) (p : P)
    (me me' : Seated (Stowed B P) P N) : Type 0 where
  pub view : me'.0 ≡ record me.0 { stock = Some (Place p) ∷ me.0.stock }
  pub hand : me'.1 ≡ (next + 1, None) ∷ me.1
  pub whole : next + 1 + 1 ≡ slots → (x : N) → me.0.name ≡ Some x → (t : Stowed B P) (ps : List P)
      → me'.0.stock ≡ stock_of t ps → good t.bus ps × (name t.bus ≡ x)

-- the bus and the first i places were taken
pub record HasTaken {B P N : Type 0} (good : B → List P → Type 0) (name : B → N) (slots i : ℕ) (bus : B)
    (places : Vec P Global) (me me' : Seated (Stowed B P) P N) : Type 0 where
  pub room : Vec P Global
  pub view : me'.0 ≡ record me.0 { stock = stock_of (record { bus = bus; room = room }) places.items }
  pub hand : me'.1 ≡ emptied (i + 1)
  pub many : length places.items ≡ i
  pub wide : slots ≤ vec_capacity places + 1
  pub whole : i + 1 ≡ slots → (x : N) → me.0.name ≡ Some x → good bus places.items × (name bus ≡ x)

-- some of the values ps lie in the hand, behind the slots that wait for the others, qs
pub record IsFilling {T P : Type 0} (ps : List P) (hand : List (ℕ × Slot T P)) (qs : List P) : Type 0 where
  pub filled : List (ℕ × Slot T P)
  pub hand_is : hand ≡ emptied (length qs + 1) ++ filled
  pub whole : (t : T) → numbered (stock_of t ps) ≡ filled ++ numbered (stock_of t qs)

-- all values lie in the hand
pub record IsFilled {B P : Type 0} (bus : B) (ps : List P) (hand : List (ℕ × Slot (Stowed B P) P)) : Type 0 where
  pub room : Vec P Global
  pub roomy : HasRoom (length ps) room
  pub hand_is : hand ≡ numbered (stock_of (record { bus = bus; room = room }) ps)

-- a seat that holds all slots can commit what it has in hand: it is good, and has the seat's name
pub record CanCommit {B P N : Type 0} (good : B → List P → Type 0) (name : B → N) (slots : ℕ)
    (me : Seated (Stowed B P) P N) : Type 0 where
  pub bus : B
  pub places : List P
  pub live : me.0.live ≡ true
  pub own : me.0.own ≡ None
  pub tall : length me.0.stock ≡ slots
  pub many : length places + 1 ≡ slots
  pub is_good : good bus places
  pub named : me.0.name ≡ Some (name bus)
  pub filled : IsFilled bus places me.1
