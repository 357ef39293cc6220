-- The first element of a list that passes a test.
use Rattle.std.proofs.Common.{◌≡◌, ℕ, Bool, List, length, arith, Some, None}
use Rattle.std.specs.Option.{unwrap_or}
use Rattle.std.specs.List.{position, position_or_len}
use Rattle.std.proofs.lemmas.Grind.{common_steps}
use Rattle.std.proofs.lemmas.List.Sums.{prefix_len-le-length}

pub position_or_len-Some : {X : Type 0} (p : X → Bool) (xs : List X) (i : ℕ) → position p xs ≡ Some i → position_or_len p xs ≡ i
position_or_len-Some p xs i e = grind (arith, common_steps)

pub position_or_len-None : {X : Type 0} (p : X → Bool) (xs : List X) → position p xs ≡ None → position_or_len p xs ≡ length xs
position_or_len-None p xs e = grind (arith, common_steps, prefix_len-le-length)

pub unwrap_or-position : {X : Type 0} (p : X → Bool) (xs : List X) → unwrap_or (position p xs) (length xs) ≡ position_or_len p xs
unwrap_or-position p xs = grind (arith, common_steps, prefix_len-le-length)
