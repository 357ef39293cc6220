-- The table in which labels are looked up.
use Rattle.std.specs.Prelude.{◌≡◌, ℕ, List}
use Rattle.std.specs.BTreeMap.{BTreeMap, get_by}
use Rattle.std.specs.Cmp.Lexicographic.{slice_cmp}
use Rattle.std.specs.List.{position_from}
use Rattle.std.specs.Ordering.{nat_cmp, ordering_then}
use Rattle.std.specs.declared.cmp.Ordering.{Ordering}
use Rattle.spur_asm.specs.Context.{Placed, is_label}
use Rattle.spur_asm.specs.declared.label.Key as keys

-- a board and a name, compared to a key: by the board, and then by the name, byte by byte
abbrev pub against : ℕ → List ℕ → keys.Key → Ordering
against board name k = ordering_then (nat_cmp board k.board) (slice_cmp nat_cmp name k.name.now)

-- the table has, for each board and name, the number of the first of these labels that is the board's and has the name
abbrev pub NumbersFirst : BTreeMap keys.Key ℕ → List Placed → Type 0
NumbersFirst first all = (board : ℕ) (name : List ℕ) → get_by (against board name) first ≡ position_from (is_label board name) 0 all
