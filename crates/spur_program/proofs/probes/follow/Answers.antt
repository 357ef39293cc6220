use Rattle.std.proofs.Common.{length, ◌*◌, ◌+◌}
use Rattle.spur_program.proofs.SeenFacts.{goes_to_stop, out_unless_stopped, shown_by_schedule}
use Rattle.spur_program.proofs.probes.follow.Goals as goal

pub returns-clause-ended : goal.returns-clause-ended
returns-clause-ended g c =
    let old = c.args.world.now in
    let new = c.run_schedule.new.world in
    out_unless_stopped g.C.Cpu.meaning g.C.Cpu.state c.args.schedule.start c.args.schedule.late (length old.boards.items * (old.beginning.opening.value.options.budget + 1)) old.store.history.entries new.store.history.entries
    old.boards.items new.boards.items c.in_ok-ran.ran c.told_stop.result c.told_stop.ensures c.in_ok-ran.ensures.followed

pub returns-clause-order : goal.returns-clause-order
returns-clause-order g c =
    let old = c.args.world.now in
    let new = c.run_schedule.new.world in
    goes_to_stop g.C.Cpu.meaning g.C.Cpu.state c.args.schedule.start c.args.schedule.late (length old.boards.items * (old.beginning.opening.value.options.budget + 1)) old.store.history.entries new.store.history.entries
    old.boards.items new.boards.items c.in_ok-ran.ran c.told_stop.result c.told_stop.ensures c.in_ok-ran.ensures.followed

pub returns-clause-shown : goal.returns-clause-shown
returns-clause-shown g c =
    shown_by_schedule _ c.args.schedule _ _ _ _ c.in_ok-ran.ran c.told_stop.result c.in_ok-lines.lines.items c.told_stop.ensures c.in_ok-lines.ensures c.as_slice.ensures.value c.in_ok-ran.ensures.shown
