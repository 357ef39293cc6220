-- What is known of the pages of a swap object: `Some words` is told, `None` is not told.
use Rattle.std.specs.Prelude.{ℕ, ◌≡◌, ◌+◌, ◌-◌, ◌*◌, ◌^◌, min, List, length, Some, None}
use Rattle.std.specs.declared.option.Option.{Option}
use Rattle.spur_addr.specs.Pages.{page_at, with_page}
use Rattle.spur_swap.specs.Pages.{zero_pages}

-- told pages have 1024 words a slot
abbrev pub HaveSlots : Option (List ℕ) → ℕ → Type 0
HaveSlots None slots = Unit {0}
HaveSlots (Some words) slots = length words ≡ 1024 * slots

-- told pages became so many pages of zeros
abbrev pub told_zeros : Option (List ℕ) → ℕ → Option (List ℕ)
told_zeros None slots = None
told_zeros (Some words) slots = Some (zero_pages slots)

-- this is a slot's page, where it is told
abbrev pub IsTold : Option (List ℕ) → ℕ → List ℕ → Type 0
IsTold None slot page = Unit {0}
IsTold (Some words) slot page = page ≡ page_at words slot

-- told pages got this page in the place of that of a slot
abbrev pub told_with : Option (List ℕ) → ℕ → List ℕ → Option (List ℕ)
told_with None slot page = None
told_with (Some words) slot page = Some (with_page words slot page)

-- the number of calls of a kind after one more: 2^32 - 1 is its last value, where it stays
abbrev pub one_call_more : ℕ → ℕ
one_call_more calls = min (calls + 1) (2 ^ 32 - 1)
