-- Parts of a list: so many members from a position on, or by their number where all parts are as long.
use Rattle.std.specs.Prelude.{ℕ, ◌*◌, List, take, drop}
use Rattle.std.proofs.Math.Seq.{paste}

-- the members from position `at` on, `count` of them
abbrev pub part_at : {A : Type 0} → List A → ℕ → ℕ → List A
part_at xs at count = take count (drop at xs)

-- the list with the first `count` members of `part` in the place of as many from position `at` on; both have so many
abbrev pub with_part : {A : Type 0} → List A → ℕ → List A → ℕ → List A
with_part xs at part count = paste xs at part count

-- the part with this number, where each part has `size` members
abbrev pub numbered_part : {A : Type 0} → List A → ℕ → ℕ → List A
numbered_part xs size number = part_at xs (number * size) size

-- the list with this part of `size` members in the place of the one with this number
abbrev pub with_numbered_part : {A : Type 0} → List A → ℕ → ℕ → List A → List A
with_numbered_part xs size number part = with_part xs (number * size) part size
