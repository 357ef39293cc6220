use Rattle.std.proofs.Common.{◌≡◌, Err, rules}
use Rattle.spur_input.proofs.AnswerFacts.{text_is_refused, was_refused}
use Rattle.spur_input.proofs.answers.object_of.Goals as goal

pub returns-in_err-unit-clause-refused : goal.returns-in_err-unit-clause-refused
returns-in_err-unit-clause-refused c = λ refusal is.
    let handed : c.from_residual.result ≡ Err c.in_err-unit.field-0.0 = search rules in
    text_is_refused c.args.text.now refusal c.requires
    (c.text_unit.ensures.refused refusal (was_refused c.text_unit.result c.from_residual.result c.in_err-unit.field-0.0 refusal c.in_err-unit.was handed is))
