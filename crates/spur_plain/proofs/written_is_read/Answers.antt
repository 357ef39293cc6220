use Rattle.spur_plain.proofs.MemoryFacts.{done-is-declared, others-stay, write-keeps-answers, write-keeps-whole, written-is-read}
use Rattle.spur_plain.proofs.written_is_read.Goals as goal

pub returns-clause-read : goal.returns-clause-read
returns-clause-read c = written-is-read

pub returns-clause-declared : goal.returns-clause-declared
returns-clause-declared c = done-is-declared

pub returns-clause-others : goal.returns-clause-others
returns-clause-others c = others-stay

pub returns-clause-answers : goal.returns-clause-answers
returns-clause-answers c = write-keeps-answers

pub returns-clause-whole : goal.returns-clause-whole
returns-clause-whole c = write-keeps-whole
