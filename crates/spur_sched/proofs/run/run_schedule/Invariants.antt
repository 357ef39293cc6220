use Rattle.std.proofs.Common.{◌≡◌, false}
use Rattle.spur_core.specs.Boards.{LogsAreEmpty, whole}
use Rattle.spur_core.specs.Step.{runners_of}
use Rattle.spur_core.specs.World.{IsGoodWorld}
use Rattle.spur_probe.specs.Shown.{told}
use Rattle.spur_sched.proofs.FollowFacts.{IsScheduling}
use Rattle.spur_sched.proofs.LeftFacts.{all_left}
use Rattle.spur_sched.proofs.ShowingFacts.{IsShowing}
use Rattle.spur_sched.proofs.run.run_schedule.Given as goal

-- the schedule up to here
abbrev pub invariant-loop-world : goal.invariant-loop-world
invariant-loop-world g l = record {
  good : IsGoodWorld g.C.Cpu.meaning g.C.Cpu.state g.C.Cpu.room g.B.Backing.meaning l.world;
  empty : l.fn.late ≡ false → LogsAreEmpty l.world.boards.items;
  beginning : l.world.beginning ≡ l.fn.world.beginning;
  scheduling : IsScheduling g.C.Cpu.meaning g.C.Cpu.state l.fn.late l.fn.start l.state l.fn.world.store.history.entries (whole l.world.store l.world.boards.items) l.fn.world.boards.items l.world.boards.items;
  showing : IsShowing (λ b. told ((goal.Probe-dyn g (b.vtable, b.value)).rule b.value) ((goal.Probe-dyn g (b.vtable, b.value)).reads b.value) ((goal.Probe-dyn g (b.vtable, b.value)).kept b.value)) l.fn.world.store.history.entries l.world.store.history.entries l.fn.probes.items l.probes.items;
}

-- how many picks are left at most
abbrev pub decreases-loop-world : goal.decreases-loop-world
decreases-loop-world g l = all_left (runners_of g.C.Cpu.meaning g.C.Cpu.state l.world.boards.items)
