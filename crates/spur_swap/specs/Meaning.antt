-- What a swap object means to those who use it.
use Rattle.std.specs.Prelude.{◌≡◌, ℕ, List}
use Rattle.std.specs.declared.option.Option.{Option}
use Rattle.spur_swap.specs.Told.{one_call_more, told_zeros}

-- the words of all pages where they are told, how many slots there are, and how many faults, reads and writes
-- there were
pub record Swap : Type 0 where
  pub pages : Option (List ℕ)
  pub slots : ℕ
  pub faults : ℕ
  pub reads : ℕ
  pub writes : ℕ

-- with so many slots in the place of all that there were, each with a page of zeros
abbrev pub with_slots : Swap → ℕ → Swap
with_slots s slots = record s { pages = told_zeros s.pages slots; slots = slots }

-- after one more read
abbrev pub after_read : Swap → Swap
after_read s = record s { reads = one_call_more s.reads }

-- after one more write, with these pages
abbrev pub after_write : Swap → Option (List ℕ) → Swap
after_write s pages = record s { pages = pages; writes = one_call_more s.writes }

-- the same but for the count of faults
abbrev pub SameButFaults : Swap → Swap → Type 0
SameButFaults old new = new ≡ record old { faults = new.faults }
