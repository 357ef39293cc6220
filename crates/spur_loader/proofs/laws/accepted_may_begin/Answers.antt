use Rattle.spur_loader.proofs.BeginFacts.{accepted_may_begin}
use Rattle.spur_loader.proofs.laws.accepted_may_begin.Goals as goal

pub returns : goal.returns
returns c = accepted_may_begin
