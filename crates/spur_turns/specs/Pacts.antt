-- The two laws of a pact.
use Rattle.std.specs.Prelude.{◌≡◌, ℕ, List, Some, slice_get, slice_set}

module _ {B P : Type 0} (good : B → List P → Type 0) (own_step : ℕ → P → P → Type 0) where
  -- each place of a good state is an own step after itself
  abbrev pub Rests : Type 0
  Rests = (bus : B) (places : List P) (i : ℕ) (p : P) → good bus places → slice_get places i ≡ Some p → own_step i p p

  -- an own step of one place keeps what is good, whatever the other places are
  abbrev pub KeepsGood : Type 0
  KeepsGood = (bus : B) (places : List P) (i : ℕ) (p q : P) → good bus places → slice_get places i ≡ Some p
      → own_step i p q → good bus (slice_set places i q)
