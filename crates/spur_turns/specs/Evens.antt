-- The relations of a test: bus and places are even, and an own step adds an even number.
use Rattle.std.specs.Prelude.{◌≡◌, ℕ, ◌+◌, ◌*◌, List, Some, slice_get, slice_set}
use Rattle.std.proofs.Common.{arith, ⊎_elim, subst}
use Rattle.spur_turns.specs.Ledgers.{got_set}

pub record IsDouble (n : ℕ) : Type 0 where
  pub half : ℕ
  pub twice : n ≡ 2 * half

pub record AreEven (bus : ℕ) (places : List ℕ) : Type 0 where
  pub bus_is : IsDouble bus
  pub each : (i n : ℕ) → slice_get places i ≡ Some n → IsDouble n

pub record AddsEven (before after : ℕ) : Type 0 where
  pub half : ℕ
  pub more : after ≡ before + 2 * half

pub adds_none : (bus : ℕ) (places : List ℕ) (i n : ℕ) → AreEven bus places → slice_get places i ≡ Some n
    → AddsEven n n
adds_none bus places i n e at = record { half = 0; more = omega arith }

pub keeps_even : (bus : ℕ) (places : List ℕ) (i n m : ℕ) → AreEven bus places → slice_get places i ≡ Some n
    → AddsEven n m → AreEven bus (slice_set places i m)
keeps_even bus places i n m e at a = record {
  bus_is = e.bus_is;
  each = λ j k at'. ⊎_elim
      (λ (t : (j ≡ i) × (m ≡ k)).
      let h = e.each i n at in
      let twice = h.twice in
      let more = a.more in
      let one = h.half in
      let two = a.half in
      subst IsDouble t.1 record { half = one + two; twice = omega (arith, twice, more) })
      (λ (t : slice_get places j ≡ Some k). e.each j k t) (got_set places i j m k at');
}
