use Rattle.spur_flat.proofs.PieceFacts.{carried-one}
use Rattle.spur_flat.proofs.state_laws.one_is_carried.Goals as goal

pub returns : goal.returns
returns c = carried-one
