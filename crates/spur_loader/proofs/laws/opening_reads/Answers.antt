use Rattle.spur_loader.proofs.BeginFacts.{opening_reads}
use Rattle.spur_loader.proofs.laws.opening_reads.Goals as goal

pub returns : goal.returns
returns c = opening_reads
