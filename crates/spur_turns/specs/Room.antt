-- The room for the places, which travels with the bus.
use Rattle.std.specs.Prelude.{◌≡◌, ℕ, ◌≤◌, List, [], length, vec_capacity}
use Rattle.std.specs.declared.alloc.Global.{Global}
use Rattle.std.specs.declared.vec.Vec.{Vec}
use Rattle.spur_turns.specs.declared.table.Stowed.{Stowed}

-- an empty list with room for n values
pub record HasRoom {P : Type 0} (n : ℕ) (v : Vec P Global) : Type 0 where
  pub empty : v.items ≡ []
  pub wide : n ≤ vec_capacity v

-- bus and places are good, and the bus has room for all places
pub record IsGoodWithRoom {B P : Type 0} (good : B → List P → Type 0) (t : Stowed B P) (ps : List P) : Type 0 where
  pub is_good : good t.bus ps
  pub room : HasRoom (length ps) t.room

abbrev pub name_with_room : {B P N : Type 0} → (B → N) → Stowed B P → N
name_with_room name t = name t.bus
