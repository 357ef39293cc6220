use Rattle.spur_pager.proofs.FewerFacts.{moved-falls, past-is-no-fault, served-fault-falls, stepped-keeps-faults}
use Rattle.spur_pager.proofs.turn_laws.faults_fall.Goals as goal

pub returns-clause-served : goal.returns-clause-served
returns-clause-served c = served-fault-falls

pub returns-clause-past : goal.returns-clause-past
returns-clause-past c = past-is-no-fault

pub returns-clause-stepped : goal.returns-clause-stepped
returns-clause-stepped c = stepped-keeps-faults

pub returns-clause-moved : goal.returns-clause-moved
returns-clause-moved c = moved-falls
