use Rattle.std.proofs.Common.{ap, ◌∙◌, None, Ok}
use Rattle.spur_gen.specs.Text.{generated_text}
use Rattle.spur_words.specs.declared.task.Order.{Order}
use Rattle.spur_words.specs.declared.task.Task.{Task}
use Rattle.spur_words.specs.declared.task.Task.TheVariants.{Run}
use Rattle.spur_program.specs.declared.report.Status.TheVariants as status
use Rattle.spur_program.specs.Answer.{Answered, Generates}
use Rattle.spur_program.proofs.WayFacts.{asked_as, loses-none}
use Rattle.spur_program.proofs.top.answer_task.Goals as goal

pub returns-in-Gen-clause-way : goal.returns-in-Gen-clause-way
returns-in-Gen-clause-way g c =
    Answered (generated_text c.in-Gen.number c.in-Gen.boards c.in-Gen.pages) status.Fine None
    (Generates c.in-Gen.number c.in-Gen.boards c.in-Gen.pages (ap (λ (t : Task). Ok t) c.in-Gen.is) (loses-none _)) c.generate_text.ensures.said

pub returns-in-Check-clause-way : goal.returns-in-Check-clause-way
returns-in-Check-clause-way g c = asked_as _ _ _ _ _ _ _ _ _ _ (ap (λ (t : Task). Ok t) c.in-Check.is) (c.check_trace.ensures.way _)

pub returns-in-Asm-clause-way : goal.returns-in-Asm-clause-way
returns-in-Asm-clause-way g c = asked_as _ _ _ _ _ _ _ _ _ _ (ap (λ (t : Task). Ok t) c.in-Asm.is) (c.assemble_text.ensures.way _)

pub returns-in-Scheduled-clause-way : goal.returns-in-Scheduled-clause-way
returns-in-Scheduled-clause-way g c =
    asked_as _ _ _ _ _ _ _ _ _ _ (ap (λ (t : Task). Ok t) (c.in-Run.is ∙ ap (λ (o : Order). Run o c.in-Run.options c.in-Run.flags) c.in-Scheduled.is)) c.run_program.ensures.way
