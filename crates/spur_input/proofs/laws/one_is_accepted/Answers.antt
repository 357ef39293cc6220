use Rattle.spur_input.proofs.AssembleFacts.{one_is_assembled}
use Rattle.spur_input.proofs.CheckFacts.{one_verdict}
use Rattle.spur_input.proofs.RunFacts.{one_is_loadable}
use Rattle.spur_input.proofs.laws.one_is_accepted.Goals as goal

pub returns-clause-run : goal.returns-clause-run
returns-clause-run c = one_is_loadable

pub returns-clause-assemble : goal.returns-clause-assemble
returns-clause-assemble c = one_is_assembled

pub returns-clause-check : goal.returns-clause-check
returns-clause-check c = one_verdict
