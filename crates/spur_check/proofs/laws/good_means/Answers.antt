use Rattle.spur_check.proofs.Opened.{good-means}
use Rattle.spur_check.proofs.laws.good_means.Goals as goal

pub returns : goal.returns
returns c = good-means
