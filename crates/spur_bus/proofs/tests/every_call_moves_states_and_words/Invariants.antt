use Rattle.std.proofs.Common.{map, List, Option}
use Rattle.spur_cache.specs.declared.line.Line.{Line}
use Rattle.spur_bus.specs.Agrees.{Agrees, AgreesWithMemory}
use Rattle.spur_bus.proofs.tests.every_call_moves_states_and_words.Given as goal

abbrev pub invariant-loop-call : goal.invariant-loop-call
invariant-loop-call g l = record {
  agree : Agrees (map (λ (lines : List (Option Line)). lines) l.boards);
  serves : AgreesWithMemory (map (λ (lines : List (Option Line)). lines) l.boards) l.phys;
}
