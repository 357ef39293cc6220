use Rattle.spur_threads.specs.Seats.{IsAgain}
use Rattle.spur_threads.proofs.turn.go_alone.Given as goal

-- the tries up to here
abbrev pub invariant-loop : goal.invariant-loop
invariant-loop g l = record {
  can : (goal.iterator-loop g).can_next l.iterator';
  finite : (goal.iterator-loop g).is_finite l.iterator';
  again : IsAgain l.initial.seat l.seat;
}
