-- How many boards and pages a generated text may have.
use Rattle.std.specs.Prelude.{ℕ, ◌&&◌, Bool, nat_le, if◌then◌else◌, Option, Some, None}

abbrev pub is_between : ℕ → ℕ → ℕ → Bool
is_between least most n = nat_le least n && nat_le n most

-- which of the three numbers is out of its range, counted from 1; the second where the second and the third are
abbrev pub outside : ℕ → ℕ → Option ℕ
outside boards pages =
    if is_between 1 12 boards then (if is_between 1 512 pages then None else Some 3) else Some 2
