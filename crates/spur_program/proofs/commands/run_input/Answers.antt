use Rattle.std.proofs.Common.{Err, ap}
use Rattle.spur_input.specs.declared.refusal.NotAccepted.{NotAccepted}
use Rattle.spur_words.specs.declared.task.Order.TheVariants.{Scheduled}
use Rattle.spur_words.specs.declared.task.Task.TheVariants.{Run}
use Rattle.spur_program.proofs.WayFacts.{fault_answered, gains-none, not_accepted_answered, report_answered}
use Rattle.spur_program.proofs.commands.run_input.Goals as goal

pub returns-in-Err-clause-answered : goal.returns-in-Err-clause-answered
returns-in-Err-clause-answered g c =
    not_accepted_answered g.B.Backing.meaning _ (Run (Scheduled c.args.schedule) c.args.options c.args.flags) c.args.input.now _ _ c.args.backing c.not_accepted.result c.in-Err.why
    (λ refusal is. c.in-Err.ensures.refused refusal (ap (λ (n : NotAccepted). Err n) is)) c.not_accepted.ensures.refused c.not_accepted.ensures.memory

pub returns-in-Ok-run_plain-clause-answered : goal.returns-in-Ok-run_plain-clause-answered
returns-in-Ok-run_plain-clause-answered g c =
    report_answered g.B.Backing.meaning _ c.args.input.now (Scheduled c.args.schedule) c.args.options c.args.flags _ _ c.args.backing c.in-Ok-run_plain.done.backing c.tell.result
    c.in-Ok.opening c.in-Ok-run_plain.done.report c.in-Ok.ensures.opened c.in-Ok-run_plain.ensures.reported.reports c.in-Ok-run_plain.ensures.reported.shown
    record { good = c.in-Ok-run_plain.ensures.reported.good; read_back = c.tell.ensures.read_back }
    c.tell.ensures.report c.tell.ensures.verdict c.tell.ensures.backing c.tell.ensures.written

pub returns-in-Err-run_plain-clause-answered : goal.returns-in-Err-run_plain-clause-answered
returns-in-Err-run_plain-clause-answered g c =
    fault_answered g.B.Backing.meaning _ c.args.input.now (Scheduled c.args.schedule) c.args.options c.args.flags _ _ c.args.backing c.in-Err-run_plain.refused.backing c.not_run.result
    c.in-Ok.opening c.in-Err-run_plain.refused.fault c.in-Ok.ensures.opened c.in-Err-run_plain.ensures.refused
    c.not_run.ensures.backing c.not_run.ensures.report c.not_run.ensures.verdict c.not_run.ensures.status (gains-none _)
