use Rattle.std.proofs.Common.{◌≡◌, ◌++◌, ◌-◌, ◌≤◌, length, map}
use Rattle.spur_asm.specs.Context.{first_context, labels_from, placed_of, IsWithin}
use Rattle.spur_asm.specs.Text.{lines_of}
use Rattle.spur_asm.proofs.lines.labels.Given as goal

abbrev pub invariant-loop-rest : goal.invariant-loop-rest
invariant-loop-rest l = record {
  so_far : map placed_of l.labels.items ++ labels_from l.context (lines_of l.rest) ≡ labels_from first_context (lines_of l.text);
  shorter : length l.rest ≤ length l.text;
  within : IsWithin (length l.text - length l.rest) l.context;
}

abbrev pub decreases-loop-rest : goal.decreases-loop-rest
decreases-loop-rest l = length l.rest
