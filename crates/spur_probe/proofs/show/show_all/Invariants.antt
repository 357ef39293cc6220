use Rattle.std.proofs.Common.{◌≡◌, drop, map}
use Rattle.spur_probe.specs.Shown.{after_all, told}
use Rattle.spur_probe.proofs.show.show_all.Given as goal

abbrev pub invariant-loop-entry : goal.invariant-loop-entry
invariant-loop-entry g l = record {
  moved : after_all (drop l.entry-index l.entries) (map (λ b. told ((goal.Probe-dyn g (b.vtable, b.value)).rule b.value) ((goal.Probe-dyn g (b.vtable, b.value)).reads b.value) ((goal.Probe-dyn g (b.vtable, b.value)).kept b.value)) l.probes.items)
      ≡ after_all l.entries (map (λ b. told ((goal.Probe-dyn g (b.vtable, b.value)).rule b.value) ((goal.Probe-dyn g (b.vtable, b.value)).reads b.value) ((goal.Probe-dyn g (b.vtable, b.value)).kept b.value)) l.initial.probes.items);
}
