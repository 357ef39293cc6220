use Rattle.std.proofs.Common.{◌∙◌}
use Rattle.spur_program.proofs.WayFacts.{said_as}
use Rattle.spur_program.proofs.answers.refuse_words.Goals as goal

pub returns-in-Ok-clause-said : goal.returns-in-Ok-clause-said
returns-in-Ok-clause-said g c = said_as _ _ _ _ _ _ _ _ (c.as_slice.ensures.value ∙ c.in-Ok.ensures) c.answer_with.ensures.said
