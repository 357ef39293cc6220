use Rattle.spur_check.proofs.Opened.{traced-is-good}
use Rattle.spur_check.proofs.laws.traced_is_good.Goals as goal

pub returns : goal.returns
returns c = traced-is-good
