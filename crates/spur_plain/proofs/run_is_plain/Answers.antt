use Rattle.spur_plain.proofs.AddressFacts.{programs-are-global}
use Rattle.spur_plain.proofs.RunFacts.{run-is-plain, run-is-plain-but-values}
use Rattle.spur_plain.proofs.run_is_plain.Goals as goal

pub returns-clause-told : goal.returns-clause-told
returns-clause-told g c = run-is-plain g.C.Cpu.meaning

pub returns-clause-but_values : goal.returns-clause-but_values
returns-clause-but_values g c = run-is-plain-but-values g.C.Cpu.meaning

pub returns-clause-addresses : goal.returns-clause-addresses
returns-clause-addresses g c = programs-are-global g.C.Cpu.meaning
