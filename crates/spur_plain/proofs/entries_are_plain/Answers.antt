use Rattle.spur_plain.proofs.AnswerFacts.{final-is-plain, word-is-plain}
use Rattle.spur_plain.proofs.InvisibleFacts.{entry-is-plain, entry-moves-plain, virtual-is-whole}
use Rattle.spur_plain.proofs.entries_are_plain.Goals as goal

pub returns-clause-whole : goal.returns-clause-whole
returns-clause-whole c = virtual-is-whole

pub returns-clause-answer : goal.returns-clause-answer
returns-clause-answer c = final-is-plain

pub returns-clause-word : goal.returns-clause-word
returns-clause-word c = word-is-plain

pub returns-clause-entry : goal.returns-clause-entry
returns-clause-entry c = entry-is-plain

pub returns-clause-moves : goal.returns-clause-moves
returns-clause-moves c = entry-moves-plain
