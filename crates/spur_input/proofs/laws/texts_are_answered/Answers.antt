use Rattle.spur_input.proofs.AssembleFacts.{text_is_assembled_or_refused}
use Rattle.spur_input.proofs.RunFacts.{text_is_loadable_or_refused}
use Rattle.spur_input.proofs.laws.texts_are_answered.Goals as goal

pub returns-clause-run : goal.returns-clause-run
returns-clause-run c = text_is_loadable_or_refused

pub returns-clause-assemble : goal.returns-clause-assemble
returns-clause-assemble c = text_is_assembled_or_refused
