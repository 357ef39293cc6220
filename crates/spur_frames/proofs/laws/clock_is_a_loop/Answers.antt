use Rattle.spur_frames.proofs.LoopFacts.{turn-begins, turn-ends, turn-goes-on}
use Rattle.spur_frames.proofs.laws.clock_is_a_loop.Goals as goal

pub returns-clause-begins : goal.returns-clause-begins
returns-clause-begins c = turn-begins

pub returns-clause-more : goal.returns-clause-more
returns-clause-more c = turn-goes-on

pub returns-clause-ends : goal.returns-clause-ends
returns-clause-ends c = turn-ends
