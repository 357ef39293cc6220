use Rattle.spur_commute.proofs.ExclusiveFacts.{exclusive-commutes, tags-allow-each, tags-keep-apart}
use Rattle.spur_commute.proofs.exclusive_commutes.Goals as goal

pub returns-clause-apart : goal.returns-clause-apart
returns-clause-apart c = tags-keep-apart

pub returns-clause-each : goal.returns-clause-each
returns-clause-each c = tags-allow-each

pub returns-clause-commutes : goal.returns-clause-commutes
returns-clause-commutes c = exclusive-commutes
