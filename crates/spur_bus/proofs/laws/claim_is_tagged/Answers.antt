use Rattle.spur_bus.proofs.AllowFacts.{claim-tagged}
use Rattle.spur_bus.proofs.laws.claim_is_tagged.Goals as goal

pub returns : goal.returns
returns c = claim-tagged
