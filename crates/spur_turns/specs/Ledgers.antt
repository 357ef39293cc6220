-- A ledger with an even total, and even amounts.
use Rattle.std.specs.Prelude.{◌≡◌, ◌⊎◌, ℕ, zero, suc, ◌%◌, List, [], ◌∷◌, Some, slice_get, slice_set}
use Rattle.std.proofs.Common.{arith, ⊎_elim, inl, inr, subst}
use Rattle.spur_turns.specs.declared.ledger.Ledger.{Ledger}

pub record IsEvenNumber (n : ℕ) : Type 0 where
  pub halves : n % 2 ≡ 0

pub record IsEvenLedger (ledger : Ledger) (amounts : List ℕ) : Type 0 where
  pub total : IsEvenNumber ledger.total
  pub each : (i n : ℕ) → slice_get amounts i ≡ Some n → IsEvenNumber n

-- what is even stays so
pub record StaysEven (before after : ℕ) : Type 0 where
  pub even : IsEvenNumber before → IsEvenNumber after

pub even_rests : (ledger : Ledger) (amounts : List ℕ) (i n : ℕ) → IsEvenLedger ledger amounts
    → slice_get amounts i ≡ Some n → StaysEven n n
even_rests ledger amounts i n e at = record { even = λ h. h }

-- what is read of a list in which one number was set
pub got_set : (l : List ℕ) (i j a b : ℕ) → slice_get (slice_set l i a) j ≡ Some b
    → ((j ≡ i) × (a ≡ b)) ⊎ (slice_get l j ≡ Some b)
got_set [] i j a b e = inr e
got_set (x ∷ xs) zero zero a b e = inl ((omega arith), cc)
got_set (x ∷ xs) zero (suc j) a b e = inr e
got_set (x ∷ xs) (suc i) zero a b e = inr e
got_set (x ∷ xs) (suc i) (suc j) a b e = ⊎_elim (λ t. let q = t.0 in inl ((omega arith), t.1)) (λ t. inr t)
    (got_set xs i j a b e)

pub even_keeps : (ledger : Ledger) (amounts : List ℕ) (i n m : ℕ) → IsEvenLedger ledger amounts
    → slice_get amounts i ≡ Some n → StaysEven n m → IsEvenLedger ledger (slice_set amounts i m)
even_keeps ledger amounts i n m e at stays = record {
  total = e.total;
  each = λ j k at'. ⊎_elim (λ (t : (j ≡ i) × (m ≡ k)). subst IsEvenNumber t.1 (stays.even (e.each i n at)))
      (λ (t : slice_get amounts j ≡ Some k). e.each j k t) (got_set amounts i j m k at');
}
