use Rattle.spur_cpu.proofs.Zeros.{zero-stays}
use Rattle.spur_cpu.proofs.laws.zero_stays.Goals as goal

pub returns : goal.returns
returns c = zero-stays
