use Rattle.spur_flat.proofs.AccessFacts.{done-may-be-read}
use Rattle.spur_flat.proofs.laws.done_may_be_read.Goals as goal

pub returns : goal.returns
returns c = done-may-be-read
