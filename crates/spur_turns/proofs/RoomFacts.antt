-- The laws of a pact, with the room for the places beside the bus.
use Rattle.std.proofs.Common.{◌≡◌, ℕ, List, Some, set, sym, subst, length-set}
use Rattle.std.specs.Prelude.{slice_get}
use Rattle.spur_turns.specs.declared.table.Stowed.{Stowed}
use Rattle.spur_turns.specs.Room.{HasRoom, IsGoodWithRoom}

module _ {B P : Type 0} (good : B → List P → Type 0) (own_step : ℕ → P → P → Type 0) where
  pub rests_with_room : ((b : B) (ps : List P) (i : ℕ) (p : P) → good b ps → slice_get ps i ≡ Some p → own_step i p p)
      → (t : Stowed B P) (ps : List P) (i : ℕ) (p : P) → IsGoodWithRoom good t ps → slice_get ps i ≡ Some p → own_step i p p
  rests_with_room rests t ps i p fine e = rests t.bus ps i p fine.is_good e

  pub keeps_with_room : ((b : B) (ps : List P) (i : ℕ) (p q : P) → good b ps → slice_get ps i ≡ Some p → own_step i p q → good b (set ps i q))
      → (t : Stowed B P) (ps : List P) (i : ℕ) (p q : P) → IsGoodWithRoom good t ps → slice_get ps i ≡ Some p → own_step i p q → IsGoodWithRoom good t (set ps i q)
  keeps_with_room keeps t ps i p q fine e moved = record {
    is_good = keeps t.bus ps i p q fine.is_good e moved;
    room = subst (λ (n : ℕ). HasRoom n t.room) (sym (length-set ps i q)) fine.room;
  }
