use Rattle.spur_flat.proofs.AccessFacts.{ready-is-done}
use Rattle.spur_flat.proofs.laws.ready_is_done.Goals as goal

pub returns : goal.returns
returns c = ready-is-done
