use Rattle.spur_commute.proofs.LogFacts.{logs-are-allowed, merge-is-same, own-step-is-carried, own-step-is-last, own-step-keeps-logs, own-step-leads-untold}
use Rattle.spur_commute.proofs.own_step_is_carried.Goals as goal

pub returns-clause-told : goal.returns-clause-told
returns-clause-told c = own-step-is-carried

pub returns-clause-untold : goal.returns-clause-untold
returns-clause-untold c = own-step-leads-untold

pub returns-clause-last : goal.returns-clause-last
returns-clause-last c = own-step-is-last

pub returns-clause-kept : goal.returns-clause-kept
returns-clause-kept c = own-step-keeps-logs

pub returns-clause-allowed : goal.returns-clause-allowed
returns-clause-allowed c = logs-are-allowed

pub returns-clause-merged : goal.returns-clause-merged
returns-clause-merged c = merge-is-same
