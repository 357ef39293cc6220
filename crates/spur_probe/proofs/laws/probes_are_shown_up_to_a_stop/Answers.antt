use Rattle.spur_probe.proofs.StopFacts.{stopped, unstopped}
use Rattle.spur_probe.proofs.laws.probes_are_shown_up_to_a_stop.Goals as goal

pub returns-clause-unstopped : goal.returns-clause-unstopped
returns-clause-unstopped c = unstopped

pub returns-clause-stopped : goal.returns-clause-stopped
returns-clause-stopped c = stopped
