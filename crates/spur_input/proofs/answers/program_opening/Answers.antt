use Rattle.std.proofs.Common.{◌≡◌, Err, rules}
use Rattle.spur_input.proofs.AnswerFacts.{load_is_refused, program_is_refused, was_refused}
use Rattle.spur_input.proofs.answers.program_opening.Goals as goal

pub returns-in_err-unit-clause-refused : goal.returns-in_err-unit-clause-refused
returns-in_err-unit-clause-refused c = λ refusal is.
    let handed : c.from_residual.result ≡ Err c.in_err-unit.field-0.0 = search rules in
    program_is_refused c.args.options.now c.args.input.now refusal c.requires.within
    (c.program_unit.ensures.refused refusal (was_refused c.program_unit.result c.from_residual.result c.in_err-unit.field-0.0 refusal c.in_err-unit.was handed is))

pub returns-in_err-opening-clause-refused : goal.returns-in_err-opening-clause-refused
returns-in_err-opening-clause-refused c = λ refusal is.
    let handed : c.from_residual-in_err-opening.result ≡ Err c.in_err-opening.field-0.0 = search rules in
    load_is_refused c.args.options.now c.args.input.now c.in_ok-unit.unit refusal c.requires.within c.in_ok-unit.ensures.program
    (c.unit_opening.ensures.refused refusal (was_refused c.unit_opening.result c.from_residual-in_err-opening.result c.in_err-opening.field-0.0 refusal c.in_err-opening.was handed is))
