use Rattle.spur_flat.proofs.AccessFacts.{refused-unless-allowed}
use Rattle.spur_flat.proofs.laws.refused_unless_allowed.Goals as goal

pub returns : goal.returns
returns c = refused-unless-allowed
