use Rattle.spur_check.proofs.Opened.{bad-means}
use Rattle.spur_check.proofs.laws.bad_means.Goals as goal

pub returns : goal.returns
returns c = bad-means
