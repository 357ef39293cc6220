use Rattle.std.proofs.Common.{◌-◌, arith, length}
use Rattle.spur_sched.proofs.ShowingFacts.{stops_below}
use Rattle.spur_sched.proofs.run.end_run.Goals as goal

pub ended_by-requires : goal.ended_by-requires
ended_by-requires g c =
    let few = c.history.type_inv.0 in
    record { few = stops_below (length c.history-seen.result.now) (length c.history-seen.result.now - c.args.first) c.history.result.now _ c.show_new-stop.result c.show_new-stop.ensures.stopped (omega arith) (omega arith) }
