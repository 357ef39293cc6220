-- A number with one more digit.
use Rattle.std.proofs.Common.{◌≡◌, ℕ, ◌+◌, ◌*◌, ◌^◌, ◌<◌, ◌≤◌, add-one, arith}
use Rattle.std.proofs.Math.Nat.{mul-le-mul_left, pow-le-pow_right, pow-suc}

small : (n radix d m : ℕ) → n < m → radix ≤ 16 → d < radix → n * radix + d < m * 16
small n radix d m lt few digit = let h : n * radix ≤ n * 16 = mul-le-mul_left n few in omega arith

pub grows : (n radix d k : ℕ) → n < 16 ^ k → radix ≤ 16 → d < radix → n * radix + d < 16 ^ (k + 1)
grows n radix d k lt few digit = let more : 16 ^ (k + 1) ≡ 16 ^ k * 16 = rw add-one (pow-suc 16 k) in rw more (small n radix d (16 ^ k) lt few digit)

pub stays_small : (n k most : ℕ) → n < 16 ^ k → k ≤ most → most ≤ 10 → n < 16 ^ 10
stays_small n k most lt up few =
    let some : 0 < 16 = omega arith in
    let below : k ≤ 10 = omega arith in
    let h : 16 ^ k ≤ 16 ^ 10 = pow-le-pow_right some below in
    omega arith
