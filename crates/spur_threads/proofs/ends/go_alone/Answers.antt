use Rattle.std.proofs.Common.{arith}
use Rattle.spur_threads.proofs.TurnFacts.{gone_alone, own_count}
use Rattle.spur_threads.proofs.ends.go_alone.Goals as goal

pub returns-clause-count : goal.returns-clause-count
returns-clause-count g c =
    own_count g.C.Cpu.meaning g.C.Cpu.state g.C.Cpu.room c.args.b 256 c.own.result c.args.world.now.boards.items c.own.new.self.boards.items c.own.ensures.own

pub returns-clause-alone : goal.returns-clause-alone
returns-clause-alone g c =
    gone_alone g.C.Cpu.meaning g.C.Cpu.state g.C.Cpu.room c.args.b 256 c.own.result c.args.world.now.boards.items c.own.new.self.boards.items (omega arith) c.own.ensures.own
