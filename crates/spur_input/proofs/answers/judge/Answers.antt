use Rattle.std.proofs.Common.{◌≡◌, ◌∙◌, Err, length, rules, sym, subst}
use Rattle.std.specs.List.{All}
use Rattle.spur_flat.specs.Blocks.{IsOfBoards}
use Rattle.spur_trace.specs.Faults.{IsTrace}
use Rattle.spur_loader.specs.Opening.{board_count}
use Rattle.spur_input.proofs.AnswerFacts.{IsHeaded, IsRead, entries_of_boards, head_is_refused, load_is_refused_to_check, may_be_judged, text_is_refused_to_check, trace_is_refused, verdict_is, was_refused}
use Rattle.spur_input.proofs.CutFacts.{part_fits}
use Rattle.spur_input.proofs.answers.judge.Goals as goal

pub text_unit-requires : goal.text_unit-requires
text_unit-requires c = part_fits c.args.input.now c.parts.result.0.now c.requires.within c.parts.ensures.program

pub returns-in_err-unit-clause-refused : goal.returns-in_err-unit-clause-refused
returns-in_err-unit-clause-refused c = λ refusal is.
    let handed : c.from_residual.result ≡ Err c.in_err-unit.field-0.0 = search rules in
    text_is_refused_to_check c.args.budget c.args.input.now c.parts.result.0.now refusal c.requires.within c.parts.ensures.program
    (c.text_unit.ensures.refused refusal (was_refused c.text_unit.result c.from_residual.result c.in_err-unit.field-0.0 refusal c.in_err-unit.was handed is))

pub returns-in_err-head-clause-refused : goal.returns-in_err-head-clause-refused
returns-in_err-head-clause-refused c = λ refusal is.
    let handed : c.from_residual-in_err-head.result ≡ Err c.in_err-head.field-0.0 = search rules in
    let read : IsRead c.args.input.now c.parts.result.0.now c.parts.result.1.now c.in_ok-unit.unit =
    record { within = c.requires.within; program_is = c.parts.ensures.program; trace_is = c.parts.ensures.trace; says = c.in_ok-unit.ensures.says } in
    let many : c.len.result ≡ length c.in_ok-unit.unit.boards = search rules in
    head_is_refused c.args.budget c.args.input.now c.parts.result.0.now c.parts.result.1.now c.in_ok-unit.unit c.len.result refusal read many
    (c.trace_head.ensures.refused refusal (was_refused c.trace_head.result c.from_residual-in_err-head.result c.in_err-head.field-0.0 refusal c.in_err-head.was handed is))

pub returns-in_err-opening-clause-refused : goal.returns-in_err-opening-clause-refused
returns-in_err-opening-clause-refused c = λ refusal is.
    let handed : c.from_residual-in_err-opening.result ≡ Err c.in_err-opening.field-0.0 = search rules in
    let read : IsRead c.args.input.now c.parts.result.0.now c.parts.result.1.now c.in_ok-unit.unit =
    record { within = c.requires.within; program_is = c.parts.ensures.program; trace_is = c.parts.ensures.trace; says = c.in_ok-unit.ensures.says } in
    let many : c.len.result ≡ length c.in_ok-unit.unit.boards = search rules in
    let headed : IsHeaded c.args.budget c.args.input.now c.parts.result.0.now c.parts.result.1.now c.in_ok-unit.unit c.in_ok-head.head c.head_options-options.result =
    record { read = read; header = c.in_ok-head.ensures.header; boards = c.in_ok-head.ensures.boards ∙ many; options_are = c.head_options-options.ensures.options } in
    load_is_refused_to_check c.args.budget c.args.input.now c.parts.result.0.now c.parts.result.1.now c.in_ok-unit.unit c.in_ok-head.head c.head_options-options.result refusal headed
    (c.unit_opening.ensures.refused refusal (was_refused c.unit_opening.result c.from_residual-in_err-opening.result c.in_err-opening.field-0.0 refusal c.in_err-opening.was handed is))

pub returns-in_err-entries-clause-refused : goal.returns-in_err-entries-clause-refused
returns-in_err-entries-clause-refused c = λ refusal is.
    let handed : c.from_residual-in_err-entries.result ≡ Err c.in_err-entries.field-0.0 = search rules in
    let read : IsRead c.args.input.now c.parts.result.0.now c.parts.result.1.now c.in_ok-unit.unit =
    record { within = c.requires.within; program_is = c.parts.ensures.program; trace_is = c.parts.ensures.trace; says = c.in_ok-unit.ensures.says } in
    let many : c.len.result ≡ length c.in_ok-unit.unit.boards = search rules in
    let headed : IsHeaded c.args.budget c.args.input.now c.parts.result.0.now c.parts.result.1.now c.in_ok-unit.unit c.in_ok-head.head c.head_options-options.result =
    record { read = read; header = c.in_ok-head.ensures.header; boards = c.in_ok-head.ensures.boards ∙ many; options_are = c.head_options-options.ensures.options } in
    trace_is_refused c.args.budget c.args.input.now c.parts.result.0.now c.parts.result.1.now c.in_ok-unit.unit c.in_ok-head.head c.head_options-options.result refusal headed
    c.in_ok-opening.ensures.accepted
    (c.trace_entries.ensures.refused refusal (was_refused c.trace_entries.result c.from_residual-in_err-entries.result c.in_err-entries.field-0.0 refusal c.in_err-entries.was handed is))

pub check-requires-clause-opening : goal.check-requires-clause-opening
check-requires-clause-opening c =
    may_be_judged c.in_ok-unit.unit c.head_options-options.result c.in_ok-opening.opening c.in_ok-unit.ensures.limits c.head_options-options.ensures.range
    c.in_ok-opening.ensures.accepted c.in_ok-opening.ensures.opening

pub check-requires-clause-entries : goal.check-requires-clause-entries
check-requires-clause-entries c =
    let many : c.len.result ≡ length c.in_ok-unit.unit.boards = search rules in
    let same : c.as_slice.result.now ≡ c.in_ok-entries.entries.items = search rules in
    let of : All (IsOfBoards (board_count c.in_ok-opening.opening)) c.in_ok-entries.entries.items =
    entries_of_boards c.in_ok-unit.unit c.head_options-options.result c.in_ok-opening.opening c.parts.result.1.now c.in_ok-head.head c.in_ok-entries.entries.items
    c.in_ok-opening.ensures.opening (c.in_ok-head.ensures.boards ∙ many) (c.in_ok-entries.ensures.found c.in_ok-head.head c.in_ok-head.ensures.header) in
    subst (All (IsOfBoards (board_count c.in_ok-opening.opening))) (sym same) of

pub returns-clause-judged : goal.returns-clause-judged
returns-clause-judged c =
    let read : IsRead c.args.input.now c.parts.result.0.now c.parts.result.1.now c.in_ok-unit.unit =
    record { within = c.requires.within; program_is = c.parts.ensures.program; trace_is = c.parts.ensures.trace; says = c.in_ok-unit.ensures.says } in
    let many : c.len.result ≡ length c.in_ok-unit.unit.boards = search rules in
    let same : c.as_slice.result.now ≡ c.in_ok-entries.entries.items = search rules in
    let headed : IsHeaded c.args.budget c.args.input.now c.parts.result.0.now c.parts.result.1.now c.in_ok-unit.unit c.in_ok-head.head c.head_options-options.result =
    record { read = read; header = c.in_ok-head.ensures.header; boards = c.in_ok-head.ensures.boards ∙ many; options_are = c.head_options-options.ensures.options } in
    let trace : IsTrace c.parts.result.1.now c.in_ok-head.head c.as_slice.result.now =
    subst (IsTrace c.parts.result.1.now c.in_ok-head.head) (sym same) (c.in_ok-entries.ensures.found c.in_ok-head.head c.in_ok-head.ensures.header) in
    verdict_is c.args.budget c.args.input.now c.parts.result.0.now c.parts.result.1.now c.in_ok-unit.unit c.in_ok-head.head c.head_options-options.result c.in_ok-opening.opening
    c.as_slice.result.now c.in_ok-verdict.verdict headed c.in_ok-opening.ensures.accepted c.in_ok-opening.ensures.opening trace c.in_ok-verdict.ensures
