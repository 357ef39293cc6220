use Rattle.std.proofs.Common.{◌≡◌, ◌++◌, drop, map}
use Rattle.spur_probe.specs.Shown.{told, told_line}
use Rattle.spur_probe.proofs.lines.lines_of.Given as goal

abbrev pub invariant-loop-probe : goal.invariant-loop-probe
invariant-loop-probe g l = l.lines.items ++ map told_line (map (λ b. told ((goal.Probe-dyn g (b.vtable, b.value)).rule b.value) ((goal.Probe-dyn g (b.vtable, b.value)).reads b.value) ((goal.Probe-dyn g (b.vtable, b.value)).kept b.value)) (drop l.probe-index l.probes))
    ≡ map told_line (map (λ b. told ((goal.Probe-dyn g (b.vtable, b.value)).rule b.value) ((goal.Probe-dyn g (b.vtable, b.value)).reads b.value) ((goal.Probe-dyn g (b.vtable, b.value)).kept b.value)) l.probes)
