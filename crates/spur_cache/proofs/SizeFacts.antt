-- The numbers with one bit set are the powers of two.
use Rattle.std.proofs.Common.{◌≡◌, ◌≢◌, ◌↔◌, Bool, true, ℕ, zero, suc, ◌+◌, ◌*◌, ◌<◌, ◌≤◌, ◌/◌, ◌%◌, ◌^◌, ⊎_elim, refl, sym, ap, ◌∙◌, arith, ◌-◌, subst}
use Rattle.std.proofs.lemmas.Bool.{cases_lt, cases_eq, eqb-true, eq-eqb}
use Rattle.std.proofs.lemmas.Nat.{and_mask, mod_below, ones_cat, pow_pos, zero_from_ones}
use Rattle.std.proofs.Math.Nat.{two-pow-succ}
use Rattle.std.specs.Prelude.{count_ones, bit_and}
use Rattle.std.specs.Int.{IsPowerOfTwo, is_power_of_two}
use Rattle.spur_snoop.specs.Size.{IsLineCount}

none_counted : count_ones 0 ≡ 0
unfolding lib.Count.ones
none_counted = refl

one_counted : count_ones 1 ≡ 1
unfolding lib.Count.ones
one_counted = refl

halves : (n : ℕ) → count_ones n ≡ count_ones (n / 2) + count_ones (n % 2)
halves n =
    let split : n ≡ n / 2 * 2 ^ 1 + n % 2 = omega arith in
    ap count_ones split ∙ ones_cat 1 (n / 2) (n % 2) (mod_below n 2 (omega arith))

half_below : (k n : ℕ) → n < 2 ^ suc k → n / 2 < 2 ^ k
half_below k n small =
    let e : 2 ^ suc k ≡ 2 ^ k + 2 ^ k = two-pow-succ k in
    omega arith

pub one_bit : (k n : ℕ) → n < 2 ^ k → count_ones n ≡ 1 → IsPowerOfTwo n
one_bit zero n small one =
    let none : n ≡ 0 = omega arith in
    let counted : count_ones n ≡ 0 = ap count_ones none ∙ none_counted in
    absurd (omega arith)
one_bit (suc k) n small one =
    let parts = halves n in
    ⊎_elim
    (λ (even : n % 2 ≡ 0).
    let low : count_ones (n % 2) ≡ 0 = ap count_ones even ∙ none_counted in
    let half : IsPowerOfTwo (n / 2) = one_bit k (n / 2) (half_below k n small) (omega arith) in
    let e : ℕ = half.0 in
    let power : n / 2 ≡ 2 ^ e = half.1 in
    let twice : 2 ^ suc e ≡ 2 ^ e + 2 ^ e = two-pow-succ e in
    (suc e, omega arith))
    (λ (some : n % 2 ≢ 0).
    let below : n % 2 < 2 = mod_below n 2 (omega arith) in
    let odd : n % 2 ≡ 1 = ⊎_elim (λ (low : n % 2 < 1). absurd (some (omega arith))) (λ (more : 1 ≤ n % 2). omega arith) (cases_lt (n % 2) 1) in
    let low : count_ones (n % 2) ≡ 1 = ap count_ones odd ∙ one_counted in
    let high : n / 2 ≡ 0 = zero_from_ones (n / 2) (omega arith) in
    let is : n ≡ 1 = omega arith in
    (0, is))
    (cases_eq (n % 2) 0)

pub power_bit : (e : ℕ) → count_ones (2 ^ e) ≡ 1
power_bit e =
    let same : 2 ^ e ≡ 1 * 2 ^ e + 0 = omega arith in
    let none = none_counted in
    let one = one_counted in
    let ones_sum : count_ones 1 + count_ones 0 ≡ 1 = omega arith in
    ap count_ones same ∙ ones_cat e 1 0 (pow_pos e) ∙ ones_sum

-- a number between the bounds that has one bit may be the number of lines, and each such number has one
count_of : (lines : ℕ) → 16 ≤ lines → lines ≤ 4096 → is_power_of_two lines ≡ true → IsLineCount lines
count_of lines some few one =
    let small : lines < 2 ^ 13 = omega arith in
    let power : IsPowerOfTwo lines = one_bit 13 lines small (eqb-true (count_ones lines) 1 one) in
    record { exponent = power.0; power = power.1; some_lines = some; few_lines = few }

bit_of : (lines : ℕ) → IsLineCount lines → is_power_of_two lines ≡ true
bit_of lines count = eq-eqb (count_ones lines) 1 (ap count_ones count.power ∙ power_bit count.exponent)

pub counted : (lines : ℕ) (test : Bool) → test ≡ is_power_of_two lines → 16 ≤ lines → lines ≤ 4096 → (test ≡ true) ↔ IsLineCount lines
counted lines test is some few = (λ one. count_of lines some few (sym is ∙ one), λ count. is ∙ bit_of lines count)

-- the digits below the bit are the rest
pub masked : (block lines : ℕ) → IsLineCount lines → bit_and block (lines - 1) ≡ block % lines
masked block lines count =
    let P : ℕ → Type 0 = λ n. bit_and block (n - 1) ≡ block % n in
    subst P (sym count.power) (and_mask block count.exponent)
