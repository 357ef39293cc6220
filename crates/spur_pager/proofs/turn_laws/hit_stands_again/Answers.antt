use Rattle.spur_pager.proofs.StoredFacts.{hit-stands-again}
use Rattle.spur_pager.proofs.turn_laws.hit_stands_again.Goals as goal

pub returns : goal.returns
returns c = hit-stands-again
