use Rattle.spur_walk.proofs.ServeFacts.{access-served, page-served}
use Rattle.spur_walk.proofs.laws.entries_serve.Goals as goal

pub returns-clause-access : goal.returns-clause-access
returns-clause-access c = access-served

pub returns-clause-page : goal.returns-clause-page
returns-clause-page c = page-served
