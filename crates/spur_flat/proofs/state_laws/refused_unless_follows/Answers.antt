use Rattle.spur_flat.proofs.StateFacts.{refused-unless-follows}
use Rattle.spur_flat.proofs.state_laws.refused_unless_follows.Goals as goal

pub returns : goal.returns
returns c = refused-unless-follows
