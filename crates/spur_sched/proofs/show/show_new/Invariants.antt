use Rattle.std.proofs.Common.{◌≡◌, drop, map}
use Rattle.spur_probe.specs.Shown.{after_entries, first_stop, told}
use Rattle.spur_sched.proofs.show.show_new.Given as goal

abbrev pub invariant-loop-place : goal.invariant-loop-place
invariant-loop-place g l = record {
  moved : after_entries (drop l.place l.entries) (map (λ b. told ((goal.Probe-dyn g (b.vtable, b.value)).rule b.value) ((goal.Probe-dyn g (b.vtable, b.value)).reads b.value) ((goal.Probe-dyn g (b.vtable, b.value)).kept b.value)) l.probes.items)
      ≡ after_entries l.entries (map (λ b. told ((goal.Probe-dyn g (b.vtable, b.value)).rule b.value) ((goal.Probe-dyn g (b.vtable, b.value)).reads b.value) ((goal.Probe-dyn g (b.vtable, b.value)).kept b.value)) l.initial.probes.items);
  stopped : first_stop l.place (drop l.place l.entries) (map (λ b. told ((goal.Probe-dyn g (b.vtable, b.value)).rule b.value) ((goal.Probe-dyn g (b.vtable, b.value)).reads b.value) ((goal.Probe-dyn g (b.vtable, b.value)).kept b.value)) l.probes.items)
      ≡ first_stop 0 l.entries (map (λ b. told ((goal.Probe-dyn g (b.vtable, b.value)).rule b.value) ((goal.Probe-dyn g (b.vtable, b.value)).reads b.value) ((goal.Probe-dyn g (b.vtable, b.value)).kept b.value)) l.initial.probes.items);
}
