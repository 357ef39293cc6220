use Rattle.spur_words.specs.Words.{texts}
use Rattle.spur_words.proofs.WordFacts.{range_if-Ok}
use Rattle.spur_words.proofs.reading.task_of.Goals as goal

pub returns-clause-ranges : goal.returns-clause-ranges
returns-clause-ranges c = range_if-Ok (texts c.args.words.now) c.read-task.result c.read-task.ensures
