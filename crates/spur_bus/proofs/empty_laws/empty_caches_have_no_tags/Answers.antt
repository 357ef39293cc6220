use Rattle.spur_bus.proofs.NoLineFacts.{tags-empty}
use Rattle.spur_bus.proofs.empty_laws.empty_caches_have_no_tags.Goals as goal

pub returns : goal.returns
returns c = tags-empty
