use Rattle.std.proofs.Common.{◌∙◌, None, Err, ap, refl}
use Rattle.spur_object.specs.Fields.{object_bytes}
use Rattle.spur_input.specs.declared.refusal.NotAccepted.{NotAccepted}
use Rattle.spur_words.specs.declared.task.Task.TheVariants.{Asm}
use Rattle.spur_program.specs.declared.report.Status.TheVariants.{Fine}
use Rattle.spur_program.specs.Answer.{Assembles, Said}
use Rattle.spur_program.proofs.WayFacts.{not_accepted_answered, said_as}
use Rattle.spur_program.proofs.commands.assemble_input.Goals as goal

pub returns-in-Ok-clause-answered : goal.returns-in-Ok-clause-answered
returns-in-Ok-clause-answered g c = λ probes.
    let object = c.in-Ok.ensures.object in
    Said (object_bytes object.unit) Fine None (Assembles refl object.unit object.assembled)
    (said_as _ _ _ _ _ _ _ _ (c.as_slice.ensures.value ∙ object.is) c.answer_with.ensures.said)

pub returns-in-Err-clause-answered : goal.returns-in-Err-clause-answered
returns-in-Err-clause-answered g c = λ probes.
    not_accepted_answered g.B.Backing.meaning probes Asm c.args.input.now _ _ c.args.backing c.not_accepted.result c.in-Err.why
    (λ refusal is. c.in-Err.ensures.refused refusal (ap (λ (n : NotAccepted). Err n) is)) c.not_accepted.ensures.refused c.not_accepted.ensures.memory
