use Rattle.std.proofs.Common.{ℕ, ◌^◌, ◌<◌, ◌≤◌, arith}
use Rattle.std.proofs.Math.Nat.{pow-le-pow_right}
use Rattle.spur_words.proofs.numbers.hexadecimal_of.Goals as goal

-- the number of at most 10 digits
few_digits : (n k : ℕ) → n < 16 ^ k → k ≤ 10 → n < 16 ^ 10
few_digits n k below few =
    let some : 0 < 16 = omega arith in
    let most : 16 ^ k ≤ 16 ^ 10 = pow-le-pow_right some few in
    omega arith

pub overflow_mul-n : goal.overflow_mul-n
overflow_mul-n c =
    let small = few_digits c.loop-c.n c.loop-c.c-index c.loop-c.invariant.below (omega arith) in
    omega arith

pub overflow_add-n : goal.overflow_add-n
overflow_add-n c =
    let small = few_digits c.loop-c.n c.loop-c.c-index c.loop-c.invariant.below (omega arith) in
    omega (arith, c.in_ok-digit.ensures.small)

pub returns-clause-below : goal.returns-clause-below
returns-clause-below c = few_digits c.loop-c.n c.loop-c.c-index c.loop-c.invariant.below (omega arith)
