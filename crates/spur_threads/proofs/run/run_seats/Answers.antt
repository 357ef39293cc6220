use Rattle.std.proofs.Common.{rules}
use Rattle.spur_threads.proofs.SeatFacts.{idle_back, lent_may_turn, named_back}
use Rattle.spur_threads.proofs.run.run_seats.Goals as goal

pub run_each-requires-clause-each : goal.run_each-requires-clause-each
run_each-requires-clause-each g c = λ κs within. lent_may_turn c.args.turns.now c.args.seats.now.items c.as_mut_slice.result.now c.as_mut_slice.ensures.value c.requires.idle

pub returns-clause-idle : goal.returns-clause-idle
returns-clause-idle g c =
    idle_back c.args.turns.now c.args.seats.now.len c.args.seats.now.items c.as_mut_slice.result.now c.run_each.new.seats c.as_mut_slice.ensures.value c.as_mut_slice.ensures.len (search rules) c.requires.idle c.run_each.ensures

pub returns-clause-named : goal.returns-clause-named
returns-clause-named g c = λ name named.
    named_back name c.args.seats.now.len c.args.seats.now.items c.as_mut_slice.result.now c.run_each.new.seats c.as_mut_slice.ensures.value c.as_mut_slice.ensures.len (search rules) named c.run_each.ensures
