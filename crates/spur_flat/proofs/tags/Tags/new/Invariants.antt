use Rattle.std.proofs.Common.{◌≡◌, replicate, None}
use Rattle.spur_flat.proofs.tags.Tags.new.Given as goal

abbrev pub invariant-loop : goal.invariant-loop
invariant-loop l = l.all.items ≡ replicate l.counter (replicate l.lines None)
