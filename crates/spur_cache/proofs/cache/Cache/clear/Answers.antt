use Rattle.spur_cache.proofs.CacheFacts.{cache-drop}
use Rattle.spur_cache.proofs.cache.Cache.clear.Goals as goal

pub invariant_of-self : goal.invariant_of-self
invariant_of-self c = cache-drop c.self.inside.lines.items c.slot-slot.result c.self.invariant
