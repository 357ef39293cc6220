use Rattle.std.proofs.Common.{◌≡◌, drop}
use Rattle.spur_flat.specs.TagRules.{holder_from}
use Rattle.spur_flat.proofs.tags.holder.Given as goal

abbrev pub invariant-loop-k : goal.invariant-loop-k
invariant-loop-k l = holder_from l.page 0 l.fn.boards ≡ holder_from l.page l.k (drop l.k l.fn.boards)
