use Rattle.std.proofs.Common.{◌≡◌, ◌∙◌, sym, ap, rules, List, ◌∷◌, None, Err}
use Rattle.std.specs.Option.{option_copied}
use Rattle.spur_asm.specs.Context.{behind_label, leading_label}
use Rattle.spur_asm.specs.Lexeme.{Lexeme, lexeme_of, lexemes_of}
use Rattle.spur_asm.specs.Line.{head_fault}
use Rattle.spur_asm.proofs.StepFacts.{step-Ok, step-Err}
use Rattle.spur_asm.proofs.line.step.Goals as goal

pub returns-in_err-statement-clause-step : goal.returns-in_err-statement-clause-step
returns-in_err-statement-clause-step c =
    let label : option_copied c.label_at_head-label.result ≡ leading_label (lexemes_of c.args.line.now) = c.label_at_head-label.ensures.label ∙ ap (λ (ls : List Lexeme). leading_label ls) c.new-cursor.ensures in
    let behind : behind_label (lexemes_of c.args.line.now) ≡ lexeme_of c.in-Some-next.first ∷ c.next.new.self = ap (λ (ls : List Lexeme). behind_label ls) (sym c.new-cursor.ensures) ∙ sym c.label_at_head-label.ensures.rest ∙ c.in-Some-next.ensures in
    let stands : head_fault c.args.labels.now c.args.context (option_copied c.label_at_head-label.result) ≡ None = sym c.head_fault.ensures ∙ c.in_default.is in
    let answer : c.from_residual.result ≡ Err c.in_err-statement.field-0.0 = search rules in
    answer ∙ sym (step-Err c.args.labels.now c.args.context c.args.line.now _ (lexeme_of c.in-Some-next.first) c.next.new.self c.in_err-statement.field-0.0 label stands behind (sym c.begun.ensures ∙ c.in_err-statement.was))

pub returns-clause-step : goal.returns-clause-step
returns-clause-step c =
    let label : option_copied c.label_at_head-label.result ≡ leading_label (lexemes_of c.args.line.now) = c.label_at_head-label.ensures.label ∙ ap (λ (ls : List Lexeme). leading_label ls) c.new-cursor.ensures in
    let behind : behind_label (lexemes_of c.args.line.now) ≡ lexeme_of c.in-Some-next.first ∷ c.next.new.self = ap (λ (ls : List Lexeme). behind_label ls) (sym c.new-cursor.ensures) ∙ sym c.label_at_head-label.ensures.rest ∙ c.in-Some-next.ensures in
    let stands : head_fault c.args.labels.now c.args.context (option_copied c.label_at_head-label.result) ≡ None = sym c.head_fault.ensures ∙ c.in_default.is in
    rw c.after-2.ensures.after (sym (step-Ok c.args.labels.now c.args.context c.args.line.now _ (lexeme_of c.in-Some-next.first) c.next.new.self c.in_ok-statement.statement c.in_ok-statement.sort label stands behind (sym c.begun.ensures ∙ c.in_ok-statement.was)))
