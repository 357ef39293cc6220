-- What one call of an object in memory moves.
use Rattle.std.proofs.Common.{◌≡◌, ℕ, ◌+◌, ◌-◌, ◌≤◌, Bool, ◌&&◌, nat_eq, nat_le, min, List, [], ◌++◌, length, take, drop, refl, sym, ap, ◌∙◌, append_assoc, arith, inl, inr, IfOk, Ok, Result, subst}
use Rattle.std.proofs.lemmas.Bool.{cases_lt}
use Rattle.std.proofs.Math.Seq.{take-append-add}
use Rattle.std.proofs.lemmas.Bool.Decides.{nat_tests}
use Rattle.std.proofs.lemmas.List.{append-nil, drop-drop, drop-take, drop_all, length-append, length-drop, length-take, take-append-drop, take_all, take_at}
use Rattle.spur_io.specs.Store.{Store, after_put}

-- what a source in memory gave stands in front of what is left
pub took : (bytes y z : List ℕ) (at n : ℕ) → at + n ≤ length bytes → y ≡ take (at + n - at) (drop at bytes) → drop at bytes ≡ take n (y ++ z) ++ drop (at + n) bytes
took bytes y z at n fits e =
    let m : at + n - at ≡ n = omega arith in
    let y-is : y ≡ take n (drop at bytes) = e ∙ ap (λ (k : ℕ). take k (drop at bytes)) m in
    let len : length y ≡ n = rw y-is (omega (arith, length-take n (drop at bytes), length-drop at bytes)) in
    rw (take_at y z n len, y-is, ← drop-drop n at bytes) (sym (take-append-drop n (drop at bytes)))

-- a piece that was filled, and the rest of where it stands
pub filled : (left into : List ℕ) (most n : ℕ) → most ≤ length into → n ≡ min (length left) most → (take most left ++ drop (length left) (take most into)) ++ drop most into ≡ take n left ++ drop n into
filled left into most n fits e = elim (cases_lt most (length left)) [
  | inl more ↦
      let n-is : n ≡ most = omega arith in
      let none : drop (length left) (take most into) ≡ [] = drop_all (length left) (take most into) (omega (arith, length-take most into)) in
      rw (none, append-nil, n-is) refl
  | inr less ↦
      let n-is : n ≡ length left = omega arith in
      let rest = most - length left in
      let most-is : most ≡ length left + rest = omega arith in
      let some : drop (length left) (take most into) ≡ take rest (drop (length left) into) = ap (λ (k : ℕ). drop (length left) (take k into)) most-is ∙ drop-take (length left) rest into in
      let last : drop most into ≡ drop rest (drop (length left) into) = ap (λ (k : ℕ). drop k into) most-is ∙ sym (drop-drop rest (length left) into) in
      rw (some, last, take_all most left less, append_assoc, take-append-drop, n-is, take_all (length left) left (omega arith)) refl
]

-- the same of the answer of a call
pub filled_call : {E : Type 0} (result : Result ℕ E) (left into given : List ℕ) (most : ℕ) → most ≤ length into → result ≡ Ok (min (length left) most) → given ≡ take most left ++ drop (length left) (take most into) → IfOk result (λ n. given ++ drop most into ≡ take n left ++ drop n into)
filled_call {E} result left into given most fits count given-is =
    let P : Result ℕ E → Type 0 = λ r. IfOk r (λ n. given ++ drop most into ≡ take n left ++ drop n into) in
    subst P (sym count) (ap (λ (w : List ℕ). w ++ drop most into) given-is ∙ filled left into most (min (length left) most) fits refl)

-- what a sink in memory keeps
pub kept_is : (old bytes : List ℕ) (room n : ℕ) → length old ≤ room → n ≡ min (length bytes) (room - length old) → old ++ take n bytes ≡ take room (old ++ bytes)
kept_is old bytes room n fits e = elim (cases_lt (room - length old) (length bytes)) [
  | inl more ↦
      let room-is : room ≡ length old + n = omega arith in
      sym (ap (λ (m : ℕ). take m (old ++ bytes)) room-is ∙ take-append-add old bytes n)
  | inr less ↦
      let n-is : n ≡ length bytes = omega arith in
      rw (take_all room (old ++ bytes) (omega (arith, length-append old bytes)), take_all n bytes (omega arith)) refl
]

-- whether all still fits
pub fits_is : (had room put n : ℕ) → had ≤ room → n ≡ min put (room - had) → nat_eq n put ≡ nat_le (had + put) room
fits_is had room put n fits e = grind (arith, nat_tests)

-- the bytes kept, whether all fit, and the room
abbrev pub store_of : List ℕ → Bool → ℕ → Store
store_of kept fits room = record { kept = kept; fits = fits; room = room }

-- a sink in memory after a call that kept the first n bytes
pub stored : (old : Store) (bytes kept : List ℕ) (n : ℕ) → length old.kept ≤ old.room → n ≡ min (length bytes) (old.room - length old.kept) → kept ≡ old.kept ++ take n bytes → store_of kept (old.fits && nat_eq n (length bytes)) old.room ≡ after_put old bytes
stored old bytes kept n fits n-is kept-is =
    let a : kept ≡ take old.room (old.kept ++ bytes) = kept-is ∙ kept_is old.kept bytes old.room n fits n-is in
    let b : nat_eq n (length bytes) ≡ nat_le (length old.kept + length bytes) old.room = fits_is (length old.kept) old.room (length bytes) n fits n-is in
    rw (a, b) refl
