use Rattle.std.proofs.Common.{sym, ◌∙◌, None}
use Rattle.spur_program.specs.declared.report.Status.TheVariants as status
use Rattle.spur_program.specs.Answer.{Answered, ToWords}
use Rattle.spur_program.specs.Texts.{words_line}
use Rattle.spur_program.proofs.WayFacts.{asked_as, loses-none}
use Rattle.spur_program.proofs.top.answer_alone.Goals as goal

pub returns-in-Ok-clause-way : goal.returns-in-Ok-clause-way
returns-in-Ok-clause-way g c = asked_as _ _ _ _ _ _ _ _ _ _ (sym c.task_alone.ensures.task ∙ c.in-Ok.is) c.answer_task.ensures.way

pub returns-in-Err-clause-way : goal.returns-in-Err-clause-way
returns-in-Err-clause-way g c =
    Answered (words_line c.in-Err.number) status.Words None (ToWords c.in-Err.number (sym c.task_alone.ensures.task ∙ c.in-Err.is) (loses-none _)) c.refuse_words.ensures.said
