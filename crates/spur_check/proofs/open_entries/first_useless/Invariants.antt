use Rattle.std.proofs.Common.{◌≡◌, drop}
use Rattle.spur_flat.specs.Needed.{first_not, is_of_use}
use Rattle.spur_check.proofs.open_entries.first_useless.Given as goal

abbrev pub invariant-loop-k : goal.invariant-loop-k
invariant-loop-k l = first_not (is_of_use l.lines l.blocks) 0 l.fn.entries ≡ first_not (is_of_use l.lines l.blocks) l.k (drop l.k l.fn.entries)
