use Rattle.spur_frames.proofs.ClockFacts.{clear-leaves, cleared-are-few, first-clear-leaves, first-leaves-where-all-are-set, hand-does-the-list, set-bits-are-few, set-bits-fall, set-is-cleared-and-passed}
use Rattle.spur_frames.proofs.laws.clock_is_a_list.Goals as goal

pub returns-clause-clear : goal.returns-clause-clear
returns-clause-clear c = first-clear-leaves

pub returns-clause-set : goal.returns-clause-set
returns-clause-set c = first-leaves-where-all-are-set

pub returns-clause-moving : goal.returns-clause-moving
returns-clause-moving c = hand-does-the-list

pub returns-clause-cleared : goal.returns-clause-cleared
returns-clause-cleared c = set-is-cleared-and-passed

pub returns-clause-left : goal.returns-clause-left
returns-clause-left c = clear-leaves

pub returns-clause-falls : goal.returns-clause-falls
returns-clause-falls c = set-bits-fall

pub returns-clause-few : goal.returns-clause-few
returns-clause-few c = set-bits-are-few

pub returns-clause-short : goal.returns-clause-short
returns-clause-short c = cleared-are-few
