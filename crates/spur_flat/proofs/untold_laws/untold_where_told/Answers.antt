use Rattle.spur_flat.proofs.LikeFacts.{like-is-valid}
use Rattle.spur_flat.proofs.UntoldFacts.{untold-where-told}
use Rattle.spur_flat.proofs.untold_laws.untold_where_told.Goals as goal

pub returns-clause-carried : goal.returns-clause-carried
returns-clause-carried c = untold-where-told

pub returns-clause-valid : goal.returns-clause-valid
returns-clause-valid c = like-is-valid
