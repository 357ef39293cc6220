use Rattle.spur_flat.proofs.OwnerFacts.{each-has-one-owner}
use Rattle.spur_flat.proofs.ownership_laws.blocks_have_one_owner.Goals as goal

pub returns : goal.returns
returns c = each-has-one-owner
