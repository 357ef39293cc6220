-- Calls of one kind, some of which are to fail.
use Rattle.std.specs.Prelude.{ℕ, ◌+◌, ◌-◌, ◌^◌, ◌==◌, Bool, ◌&&◌, min, nat_lt, List, if◌then◌else◌}
use Rattle.std.specs.List.{list_any}

-- the numbers of the calls that are to fail, how many calls there were, and how many of them failed
pub record Calls : Type 0 where
  pub fail : List ℕ
  pub made : ℕ
  pub faults : ℕ

-- the next call is to fail: its number, counted from 1, stands in the list, and is at most 2^32 - 1
abbrev pub fails_next : Calls → Bool
fails_next c = nat_lt c.made (2 ^ 32 - 1) && list_any (λ number. number == c.made + 1) c.fail

-- after a call that did not fail; the count of calls stays at 2^32 - 1
abbrev pub after_call : Calls → Calls
after_call c = record c { made = min (c.made + 1) (2 ^ 32 - 1) }

-- after a call that failed
abbrev pub after_fault : Calls → Calls
after_fault c = record (after_call c) { faults = c.faults + 1 }

-- after the next call, which fails where its number says so
abbrev pub after_next : Calls → Calls
after_next c = if fails_next c then after_fault c else after_call c
