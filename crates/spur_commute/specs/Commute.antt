-- The law of commuting.
use Rattle.std.specs.Prelude.{ℕ, ◌≡◌, ◌↔◌, List, [], ◌∷◌, ◌++◌}
use Rattle.spur_flat.specs.declared.entry.Entry.{Entry}
use Rattle.spur_flat.specs.History.{own_entries}
use Rattle.spur_flat.specs.Validity.{IsValidFlat}
use Rattle.spur_flat.specs.State.{State, IsCarried}
use Rattle.spur_flat.specs.Untold.{IsCarriedUntold}
use Rattle.spur_commute.specs.Apart.{IsAddressed, IsApart, MayPass}

-- two pieces of a history are carried alike: from a state to the same states, with the swap told and untold, and with
-- the same own entries of each board
pub record AreCarriedAlike (S : State) (piece other : List Entry) : Type 0 where
  pub told : (to : State) → IsCarried S to piece ↔ IsCarried S to other
  pub untold : (to : State) → IsCarriedUntold S to piece ↔ IsCarriedUntold S to other
  pub own : (board : ℕ) → own_entries piece board ≡ own_entries other board

-- neighbours that are apart change places
abbrev pub NeighboursCommute : Type 0
NeighboursCommute = (S : State) (entry other : Entry) → IsValidFlat S.flat → IsAddressed entry → IsApart entry other
    → AreCarriedAlike S (entry ∷ other ∷ []) (other ∷ entry ∷ [])

-- and so do an entry and a list of entries that are apart from it
abbrev pub AccessCommutes : Type 0
AccessCommutes = (S : State) (entry : Entry) (list : List Entry) → IsValidFlat S.flat → MayPass entry list
    → AreCarriedAlike S (entry ∷ list) (list ++ entry ∷ [])
