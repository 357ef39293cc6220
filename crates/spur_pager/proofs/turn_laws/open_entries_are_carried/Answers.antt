use Rattle.spur_pager.proofs.OpenedFacts.{access-is-carried-in, nothing-is-open, step-is-carried-in}
use Rattle.spur_pager.proofs.turn_laws.open_entries_are_carried.Goals as goal

pub returns-clause-nothing : goal.returns-clause-nothing
returns-clause-nothing c = nothing-is-open

pub returns-clause-step : goal.returns-clause-step
returns-clause-step c = step-is-carried-in

pub returns-clause-access : goal.returns-clause-access
returns-clause-access c = access-is-carried-in
