use Rattle.std.proofs.Common.{refl}
use Rattle.spur_core.specs.World.{start_of}
use Rattle.spur_core.proofs.MergedFacts.{roomier_good}
use Rattle.spur_core.proofs.world.World.make_room.Goals as goal

pub returns-clause-good : goal.returns-clause-good
returns-clause-good g c =
    roomier_good g.C.Cpu.meaning g.C.Cpu.state g.C.Cpu.room g.B.Backing.meaning (start_of g.C.Cpu.state g.B.Backing.meaning c.args.self.now.beginning)
    c.args.self.now.store _ c.args.self.now.boards.items c.requires.good c.reserve.ensures.kept refl
