use Rattle.std.proofs.Common.{◌≡◌, ◌^◌, length}
use Rattle.spur_core.specs.World.{IsGoodWorld}
use Rattle.spur_threads.specs.Turns.{OthersRest}
use Rattle.spur_threads.proofs.EndFacts.{left_at}
use Rattle.spur_threads.proofs.ends.end_board.Given as goal

-- the turns up to here
abbrev pub invariant-loop-retired : goal.invariant-loop-retired
invariant-loop-retired g l = record {
  good : IsGoodWorld g.C.Cpu.meaning g.C.Cpu.state g.C.Cpu.room g.B.Backing.meaning l.world;
  beginning : l.world.beginning ≡ l.fn.world.beginning;
  count : length l.world.boards.items ≡ length l.fn.world.boards.items;
  others : OthersRest l.b l.fn.world.boards.items l.world.boards.items;
}

-- how many turns the board may still take
abbrev pub decreases-loop-retired : goal.decreases-loop-retired
decreases-loop-retired g l = left_at (2 ^ 32) l.world.boards.items l.b
