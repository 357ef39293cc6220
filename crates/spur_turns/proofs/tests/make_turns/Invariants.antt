use Rattle.spur_turns.specs.Turned.{HasTurned}
use Rattle.spur_turns.proofs.tests.make_turns.Given as goal

abbrev pub invariant-loop : goal.invariant-loop
invariant-loop g l = record {
  turned : HasTurned l.initial.seat l.seat;
}
