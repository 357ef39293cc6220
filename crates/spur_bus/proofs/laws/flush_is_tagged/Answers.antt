use Rattle.spur_bus.proofs.AllowFacts.{flush-tagged}
use Rattle.spur_bus.proofs.laws.flush_is_tagged.Goals as goal

pub returns : goal.returns
returns c = flush-tagged
