use Rattle.std.proofs.Common.{◌≡◌, ◌∙◌, sym, ap, rules, ℕ, ◌+◌, ◌-◌, ◌≤◌, ◌==◌, false, length, List, Ok, Err, arith}
use Rattle.std.specs.List.{before_first}
use Rattle.spur_asm.specs.Bytes.{is_feed}
use Rattle.spur_asm.specs.Step.{step_at}
use Rattle.spur_asm.specs.Told.{answer_of, told_at}
use Rattle.spur_asm.proofs.LineFacts.{after_first-shorter, draft_from-line, step_counted, told_from-fault, told_from-line, within_more, GivesDraft-told}
use Rattle.spur_asm.proofs.assembler.draft_of.Goals as goal

pub returns-in-Err : goal.returns-in-Err
returns-in-Err c =
    let text = c.loop-rest.rest.now in
    let all = c.args.labels.now in
    let number = c.loop-rest.number in
    let misfit = c.in-Err.misfit in
    let some : (length text == 0) ≡ false = search rules in
    let step : step_at all c.loop-rest.context (before_first is_feed text) ≡ Err misfit = rw (← c.split_line.ensures.line) (sym c.step.ensures.step ∙ c.in-Err.is) in
    let fault = c.fault_in.ensures ∙ ap (λ (line : List ℕ). answer_of (told_at number line misfit)) c.split_line.ensures.line in
    GivesDraft-told c.fault_in.result _ _ (told_at number (before_first is_feed text) misfit) fault (sym c.loop-rest.invariant.told ∙ told_from-fault all c.loop-rest.context number text misfit some step)

pub loop-rest-preserved : goal.loop-rest-preserved
loop-rest-preserved c =
    let text = c.loop-rest.rest.now in
    let all = c.args.labels.now in
    let number = c.loop-rest.number in
    let statement = c.in-Ok.read.0 in
    let next = c.in-Ok.read.1 in
    let counted = c.loop-rest.invariant.number in
    let some : (length text == 0) ≡ false = search rules in
    let step : step_at all c.loop-rest.context (before_first is_feed text) ≡ Ok (statement, next) = rw (← c.split_line.ensures.line) (sym c.step.ensures.step ∙ c.in-Ok.is) in
    let shorter : length c.split_line.result.1.now + 1 ≤ length text = after_first-shorter text _ some c.split_line.ensures.rest in
    let so_long = c.loop-rest.invariant.shorter in
    record {
      so_far = rw (c.split_line.ensures.rest, c.in_ok-add_line.ensures) (sym (draft_from-line all c.loop-rest.context next c.loop-rest.draft text statement some step) ∙ c.loop-rest.invariant.so_far);
      told = rw c.split_line.ensures.rest (sym (told_from-line all c.loop-rest.context next number text statement some step) ∙ c.loop-rest.invariant.told);
      counted = rw c.in_ok-add_line.ensures (step_counted all c.loop-rest.context next c.loop-rest.draft (before_first is_feed text) statement step c.loop-rest.invariant.counted);
      shorter = omega (arith, shorter, so_long);
      within = within_more (length c.args.text.now - length text + 1) _ _ (c.in-Ok.ensures.within (length c.args.text.now - length text) c.loop-rest.invariant.within) (omega (arith, shorter, so_long));
      number = omega (arith, counted, shorter, so_long);
    }
