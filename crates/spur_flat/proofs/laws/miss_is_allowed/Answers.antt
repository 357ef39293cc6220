use Rattle.spur_flat.proofs.AccessFacts.{miss-is-allowed, miss-is-never-refused, miss-under-entry}
use Rattle.spur_flat.proofs.laws.miss_is_allowed.Goals as goal

pub returns-clause-allowed : goal.returns-clause-allowed
returns-clause-allowed c = miss-is-allowed

pub returns-clause-never_refused : goal.returns-clause-never_refused
returns-clause-never_refused c = miss-is-never-refused

pub returns-clause-under_entry : goal.returns-clause-under_entry
returns-clause-under_entry c = miss-under-entry
