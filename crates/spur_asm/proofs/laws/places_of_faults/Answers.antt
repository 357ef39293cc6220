use Rattle.spur_asm.proofs.PlaceTheorems.{places_of_faults}
use Rattle.spur_asm.proofs.laws.places_of_faults.Goals as goal

pub returns : goal.returns
returns c = places_of_faults
