use Rattle.std.proofs.Common.{◌≡◌, ◌≤◌, ℕ, List, length, drop, map}
use Rattle.std.specs.BTreeMap.{get_by}
use Rattle.std.specs.List.{position_from}
use Rattle.spur_asm.specs.Context.{is_label, placed_of}
use Rattle.spur_asm.specs.Table.{against}
use Rattle.spur_asm.proofs.table.numbers.Given as goal

abbrev pub invariant-loop-number : goal.invariant-loop-number
invariant-loop-number l =
    (l.number ≤ length l.labels)
    × ((board : ℕ) (name : List ℕ) → get_by (against board name) l.first ≡ position_from (is_label board name) l.number (map placed_of (drop l.number l.labels)))

abbrev pub decreases-loop-number : goal.decreases-loop-number
decreases-loop-number l = l.number
