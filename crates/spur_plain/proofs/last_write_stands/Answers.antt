use Rattle.spur_plain.proofs.HistoryFacts.{answers-stay, last-written, plain-after-in-pieces, plain-in-pieces, plain-is-answered, plain-stays-whole, unwritten-stays}
use Rattle.spur_plain.proofs.last_write_stands.Goals as goal

pub returns-clause-last : goal.returns-clause-last
returns-clause-last c = last-written

pub returns-clause-unwritten : goal.returns-clause-unwritten
returns-clause-unwritten c = unwritten-stays

pub returns-clause-answers : goal.returns-clause-answers
returns-clause-answers c = answers-stay

pub returns-clause-answered : goal.returns-clause-answered
returns-clause-answered c = plain-is-answered

pub returns-clause-whole : goal.returns-clause-whole
returns-clause-whole c = plain-stays-whole

pub returns-clause-pieces : goal.returns-clause-pieces
returns-clause-pieces c = plain-in-pieces

pub returns-clause-after : goal.returns-clause-after
returns-clause-after c = plain-after-in-pieces
