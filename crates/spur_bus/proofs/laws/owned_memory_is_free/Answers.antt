use Rattle.spur_bus.proofs.OldFacts.{owned-free}
use Rattle.spur_bus.proofs.laws.owned_memory_is_free.Goals as goal

pub returns : goal.returns
returns c = owned-free
