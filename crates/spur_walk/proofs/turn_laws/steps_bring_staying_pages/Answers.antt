use Rattle.spur_walk.proofs.BroughtFacts.{page-brings, step-brings}
use Rattle.spur_walk.proofs.turn_laws.steps_bring_staying_pages.Goals as goal

pub returns-clause-access : goal.returns-clause-access
returns-clause-access c = step-brings

pub returns-clause-page : goal.returns-clause-page
returns-clause-page c = page-brings
