use Rattle.std.proofs.Common.{◌≡◌, ◌-◌}
use Rattle.spur_cpu.specs.Plain.{plain}
use Rattle.spur_check.specs.Replays.{at_access}
use Rattle.spur_check.proofs.Carries.{with_locals}
use Rattle.spur_check.proofs.replay.Replay.carry_on.Given as goal

abbrev pub invariant-loop-at : goal.invariant-loop-at
invariant-loop-at l = with_locals plain (l._at-end - l._at) l.self ≡ at_access plain l.fn.self
