-- Pages on swap, as the list of their words: 1024 a slot, in the order of the slots.
use Rattle.std.specs.Prelude.{ℕ, ◌≡◌, ◌*◌, ◌/◌, ◌%◌, List, length, replicate}

-- whole pages
abbrev pub AreWholePages : List ℕ → Type 0
AreWholePages words = length words % 1024 ≡ 0

-- how many slots there are
abbrev pub slots_of : List ℕ → ℕ
slots_of words = length words / 1024

-- so many pages of zeros
abbrev pub zero_pages : ℕ → List ℕ
zero_pages slots = replicate (1024 * slots) 0
