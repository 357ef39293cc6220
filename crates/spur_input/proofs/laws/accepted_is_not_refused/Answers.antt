use Rattle.spur_input.proofs.AssembleFacts.{assembled_is_not_refused}
use Rattle.spur_input.proofs.CheckFacts.{judgeable_is_not_refused}
use Rattle.spur_input.proofs.RunFacts.{loadable_is_not_refused}
use Rattle.spur_input.proofs.laws.accepted_is_not_refused.Goals as goal

pub returns-clause-run : goal.returns-clause-run
returns-clause-run c = loadable_is_not_refused

pub returns-clause-assemble : goal.returns-clause-assemble
returns-clause-assemble c = assembled_is_not_refused

pub returns-clause-check : goal.returns-clause-check
returns-clause-check c = judgeable_is_not_refused
