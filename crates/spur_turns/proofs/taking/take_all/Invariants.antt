use Rattle.std.proofs.Common.{◌≡◌}
use Rattle.spur_turns.specs.Hands.{HasTaken}
use Rattle.spur_turns.proofs.taking.take_all.Given as goal

abbrev pub invariant-loop-next : goal.invariant-loop-next
invariant-loop-next g l = record {
  table : l.seat.table_id ≡ l.fn.seat.table_id;
  got : HasTaken g.P.Pact.good g.P.Pact.name l.fn.table.table_id.slots l.next l.bus l.places l.fn.seat.me l.seat.me;
}
