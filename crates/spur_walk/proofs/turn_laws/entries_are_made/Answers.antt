use Rattle.spur_walk.proofs.MadeFacts.{access-made, page-made}
use Rattle.spur_walk.proofs.turn_laws.entries_are_made.Goals as goal

pub returns-clause-access : goal.returns-clause-access
returns-clause-access c = access-made

pub returns-clause-page : goal.returns-clause-page
returns-clause-page c = page-made
