use Rattle.spur_flat.proofs.QuietFacts.{quiet-may-follow}
use Rattle.spur_flat.proofs.state_laws.quiet_may_follow.Goals as goal

pub returns : goal.returns
returns c = quiet-may-follow
