use Rattle.std.proofs.Common.{◌≡◌, length}
use Rattle.spur_core.specs.World.{IsGoodWorld}
use Rattle.spur_threads.proofs.EndFacts.{HaveEndedBelow}
use Rattle.spur_threads.proofs.ends.end_boards.Given as goal

-- the boards before this one have ended
abbrev pub invariant-loop-b : goal.invariant-loop-b
invariant-loop-b g l = record {
  good : IsGoodWorld g.C.Cpu.meaning g.C.Cpu.state g.C.Cpu.room g.B.Backing.meaning l.world;
  beginning : l.world.beginning ≡ l.fn.world.beginning;
  count : length l.world.boards.items ≡ length l.fn.world.boards.items;
  ended : HaveEndedBelow l.world.boards.items l.b;
}
