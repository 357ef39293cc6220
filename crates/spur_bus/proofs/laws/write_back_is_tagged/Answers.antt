use Rattle.spur_bus.proofs.AllowFacts.{back-tagged}
use Rattle.spur_bus.proofs.laws.write_back_is_tagged.Goals as goal

pub returns : goal.returns
returns c = back-tagged
