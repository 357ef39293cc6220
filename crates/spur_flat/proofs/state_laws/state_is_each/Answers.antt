use Rattle.spur_flat.proofs.StateFacts.{follow-where-each, lead-to-each}
use Rattle.spur_flat.proofs.state_laws.state_is_each.Goals as goal

pub returns-clause-follow : goal.returns-clause-follow
returns-clause-follow c = follow-where-each

pub returns-clause-lead : goal.returns-clause-lead
returns-clause-lead c = lead-to-each
