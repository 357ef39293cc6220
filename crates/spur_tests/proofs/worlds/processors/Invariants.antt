use Rattle.std.proofs.Common.{take}
use Rattle.spur_core.specs.Loaded.{AreAtBeginning}
use Rattle.spur_tests.proofs.worlds.processors.Given as goal

-- one for each code so far
abbrev pub invariant-loop-code : goal.invariant-loop-code
invariant-loop-code l = AreAtBeginning (take l.code-index l.codes) l.budget l.cpus.items
