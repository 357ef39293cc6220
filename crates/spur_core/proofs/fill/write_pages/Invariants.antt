use Rattle.std.proofs.Common.{◌≡◌, ◌≤◌}
use Rattle.spur_swap.specs.Meaning.{SameButFaults}
use Rattle.spur_core.specs.Filled.{with_slot_pages}
use Rattle.spur_core.proofs.fill.write_pages.Given as goal

-- the pages of the slots before this one were written
abbrev pub invariant-loop-slot : goal.invariant-loop-slot
invariant-loop-slot g l = record {
  slots : (g.B.Backing.meaning l.backing).slots ≡ l.slots;
  written : SameButFaults (with_slot_pages (g.B.Backing.meaning l.fn.backing) l.swap l.slot) (g.B.Backing.meaning l.backing);
  unread : (g.B.Backing.meaning l.backing).reads ≡ (g.B.Backing.meaning l.fn.backing).reads;
  later : (g.B.Backing.meaning l.fn.backing).faults ≤ (g.B.Backing.meaning l.backing).faults;
}
