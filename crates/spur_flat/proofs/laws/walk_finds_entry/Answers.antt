use Rattle.spur_flat.proofs.WalkFacts.{walk_of-entry}
use Rattle.spur_flat.proofs.laws.walk_finds_entry.Goals as goal

pub returns : goal.returns
returns c = walk_of-entry
