use Rattle.spur_bus.proofs.AllowFacts.{read-tagged}
use Rattle.spur_bus.proofs.laws.read_is_tagged.Goals as goal

pub returns : goal.returns
returns c = read-tagged
