use Rattle.spur_input.proofs.AssembleFacts.{one_refusal_to_assemble}
use Rattle.spur_input.proofs.CheckFacts.{one_refusal_to_check}
use Rattle.spur_input.proofs.RunFacts.{one_refusal_to_run}
use Rattle.spur_input.proofs.laws.one_refusal.Goals as goal

pub returns-clause-run : goal.returns-clause-run
returns-clause-run c = one_refusal_to_run

pub returns-clause-assemble : goal.returns-clause-assemble
returns-clause-assemble c = one_refusal_to_assemble

pub returns-clause-check : goal.returns-clause-check
returns-clause-check c = one_refusal_to_check
