use Rattle.std.proofs.Common.{sym, ◌∙◌}
use Rattle.spur_words.specs.Words.{texts}
use Rattle.spur_words.proofs.AloneFacts.{alone_if-Ok}
use Rattle.spur_words.proofs.reading.task_alone.Goals as goal

pub returns-else-asks_to_run-clause-alone : goal.returns-else-asks_to_run-clause-alone
returns-else-asks_to_run-clause-alone c = alone_if-Ok (texts c.args.words.now) c.task_of.result (sym c.asks_to_run.ensures ∙ c.if-asks_to_run.false) (sym c.task_of.ensures.task)
