use Rattle.std.proofs.Common.{◌≡◌, drop}
use Rattle.spur_flat.specs.Needed.{first_not, is_modest}
use Rattle.spur_check.proofs.open_entries.first_greedy.Given as goal

abbrev pub invariant-loop-k : goal.invariant-loop-k
invariant-loop-k l = first_not (is_modest l.owned) 0 l.fn.entries ≡ first_not (is_modest l.owned) l.k (drop l.k l.fn.entries)
