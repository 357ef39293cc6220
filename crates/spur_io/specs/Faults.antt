-- Counts of faults, and when a fault may be answered.
use Rattle.std.specs.Prelude.{ℕ, ◌+◌, ◌-◌, ◌^◌, ◌≤◌, min, Result, OnErr, is_err, if◌then◌else◌}

-- the count after one more fault: 2^64 - 1 is its last value, where it stays
abbrev pub one_more : ℕ → ℕ
one_more faults = min (faults + 1) (2 ^ 64 - 1)

-- the count rose, or stands at its last value
abbrev pub Rose : ℕ → ℕ → Type 0
Rose before now = one_more before ≤ now

-- the count does not fall, and an error comes only where it rose
pub record HasCause {T E : Type 0} (before now : ℕ) (result : Result T E) : Type 0 where
  pub later : before ≤ now
  pub failed : OnErr result (Rose before now)

-- the count after a call with this answer: one more after an error, else the same
abbrev pub counted : {T E : Type 0} → ℕ → Result T E → ℕ
counted before result = if is_err result then one_more before else before
