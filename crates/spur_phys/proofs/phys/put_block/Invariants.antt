use Rattle.std.proofs.Common.{◌≡◌}
use Rattle.spur_phys.specs.Blocks.{with_words}
use Rattle.spur_phys.proofs.phys.put_block.Given as goal

-- the words that were put in so far
abbrev pub invariant-loop-k : goal.invariant-loop-k
invariant-loop-k l = l.memory ≡ with_words l.k l.fn.memory l.place l.words
