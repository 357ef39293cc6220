use Rattle.std.proofs.Common.{◌≡◌, ◌∙◌, ◌-◌, ◌+◌, ap, sym, true}
use Rattle.spur_cpu.specs.After.{wants_local}
use Rattle.spur_cpu.specs.Plain.{Plain, plain}
use Rattle.spur_check.specs.Replays.{Replayed}
use Rattle.spur_check.proofs.Carries.{one_local, with_locals}
use Rattle.spur_check.proofs.replay.Replay.carry_on.Goals as goal

pub loop-at-preserved : goal.loop-at-preserved
loop-at-preserved c =
    let wants : wants_local plain c.loop-at.self.segs c.loop-at.self.budget c.loop-at.self.course ≡ true = (let e = c.wants_local.ensures in let t = c.if-not-wants_local.false in cc) in
    ap (λ (r : Replayed Plain). with_locals plain (c.self.inside.budget - (c.loop-at._at + 1)) r) c.local.ensures
    ∙ sym (one_local plain c.loop-at.self c.self.inside.budget c.loop-at._at c.loop-at-test.true wants)
    ∙ c.loop-at.invariant
