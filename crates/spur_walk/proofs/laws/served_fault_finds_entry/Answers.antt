use Rattle.spur_walk.proofs.AnswerFacts.{found-word, served-finds}
use Rattle.spur_walk.proofs.laws.served_fault_finds_entry.Goals as goal

pub returns-clause-found : goal.returns-clause-found
returns-clause-found c = served-finds

pub returns-clause-word : goal.returns-clause-word
returns-clause-word c = found-word
