use Rattle.spur_program.proofs.RunFacts.{has_run}
use Rattle.spur_program.proofs.run.run_alone.Goals as goal

pub returns-in-Ok-run_world-clause-ran : goal.returns-in-Ok-run_world-clause-ran
returns-in-Ok-run_world-clause-ran g c =
    has_run g.C.Cpu.meaning g.C.Cpu.state g.C.Cpu.room g.B.Backing.meaning _ _ c.args.opening c.args.cpus.items (g.B.Backing.meaning c.args.backing) c.in-Ok.world c.in-Ok-run_world.through c.written_back.result
    c.requires.count c.in-Ok.ensures.boards c.in-Ok.ensures.beginning c.in-Ok.ensures.store.history c.in-Ok.ensures.later c.in-Ok-run_world.ensures
    c.written_back.ensures.memory c.written_back.ensures.store c.written_back.ensures.boards c.written_back.ensures.seen
