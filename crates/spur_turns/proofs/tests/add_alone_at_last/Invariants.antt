use Rattle.spur_turns.specs.Turned.{HasTurned}
use Rattle.spur_turns.proofs.tests.add_alone_at_last.Given as goal

abbrev pub invariant-loop : goal.invariant-loop
invariant-loop g l = record {
  can : (goal.iterator-loop g).can_next l.iterator';
  finite : (goal.iterator-loop g).is_finite l.iterator';
  turned : HasTurned l.initial.seat l.seat;
}
