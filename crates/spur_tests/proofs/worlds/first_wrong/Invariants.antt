use Rattle.spur_cpu.specs.Plain.{plain}
use Rattle.spur_cpu.specs.PlainCpus.{plain_of, room_of}
use Rattle.spur_core.specs.World.{IsGoodWorld}
use Rattle.spur_tests.proofs.worlds.first_wrong.Given as goal

-- the world is still good
abbrev pub invariant-loop-i : goal.invariant-loop-i
invariant-loop-i g l = IsGoodWorld plain plain_of room_of g.B.Backing.meaning l.world
