use Rattle.spur_plain.proofs.RunFacts.{plain-of-own}
use Rattle.spur_plain.proofs.ServedFacts.{accesses-and-one-fault, served-drop-out}
use Rattle.spur_plain.proofs.served_faults_drop_out.Goals as goal

pub returns-clause-served : goal.returns-clause-served
returns-clause-served g c = served-drop-out g.C.Cpu.meaning

pub returns-clause-one : goal.returns-clause-one
returns-clause-one g c = accesses-and-one-fault g.C.Cpu.meaning

pub returns-clause-own : goal.returns-clause-own
returns-clause-own g c = plain-of-own
