use Rattle.std.proofs.Common.{◌≡◌, length}
use Rattle.spur_probe.specs.Shown.{told}
use Rattle.spur_probe.proofs.ShownFacts.{Shown}
use Rattle.spur_probe.proofs.show.show_entry.Given as goal

abbrev pub invariant-loop-i : goal.invariant-loop-i
invariant-loop-i g l = record {
  many : length l.probes.items ≡ length l.initial.probes.items;
  shown : Shown (λ b. told ((goal.Probe-dyn g (b.vtable, b.value)).rule b.value) ((goal.Probe-dyn g (b.vtable, b.value)).reads b.value) ((goal.Probe-dyn g (b.vtable, b.value)).kept b.value)) l.entry l.i l.probes.items l.initial.probes.items;
}
