use Rattle.std.proofs.Common.{Some, Err, ap, refl}
use Rattle.spur_input.specs.declared.refusal.NotAccepted.{NotAccepted}
use Rattle.spur_words.specs.declared.task.Task.TheVariants.{Check}
use Rattle.spur_program.specs.Answer.{Judges, Said, verdict_status}
use Rattle.spur_program.specs.Texts.{verdict_line}
use Rattle.spur_program.proofs.WayFacts.{not_accepted_answered}
use Rattle.spur_program.proofs.commands.check_input.Goals as goal

pub returns-in-Ok-clause-answered : goal.returns-in-Ok-clause-answered
returns-in-Ok-clause-answered g c = λ probes.
    Said (verdict_line c.in-Ok.verdict) (verdict_status c.in-Ok.verdict) (Some c.in-Ok.verdict) (Judges c.args.budget refl c.in-Ok.verdict c.in-Ok.ensures.judged)
    c.tell_verdict.ensures.said

pub returns-in-Err-clause-answered : goal.returns-in-Err-clause-answered
returns-in-Err-clause-answered g c = λ probes.
    not_accepted_answered g.B.Backing.meaning probes (Check c.args.budget) c.args.input.now _ _ c.args.backing c.not_accepted.result c.in-Err.why
    (λ refusal is. c.in-Err.ensures.refused refusal (ap (λ (n : NotAccepted). Err n) is)) c.not_accepted.ensures.refused c.not_accepted.ensures.memory
