use Rattle.std.proofs.Common.{rules}
use Rattle.spur_input.proofs.AnswerFacts.{object_of_refusal, text_of_refusal}
use Rattle.spur_input.proofs.reading.program_unit.Goals as goal

pub returns-then-is_object-clause-refused : goal.returns-then-is_object-clause-refused
returns-then-is_object-clause-refused c = λ refusal is.
    object_of_refusal c.args.input.now refusal (search rules) (c.object_unit.ensures.refused refusal is)

pub returns-else-is_object-clause-refused : goal.returns-else-is_object-clause-refused
returns-else-is_object-clause-refused c = λ refusal is.
    text_of_refusal c.args.input.now refusal (search rules) (c.text_unit.ensures.refused refusal is)
