use Rattle.spur_core.specs.Loaded.{AreAtBeginning}
use Rattle.spur_program.proofs.plain.processors.Given as goal

abbrev pub invariant-loop-code : goal.invariant-loop-code
invariant-loop-code l = AreAtBeginning l.yielded l.budget l.cpus.items
