use Rattle.std.proofs.Common.{◌≡◌, ◌+◌, ◌-◌, ◌≤◌, length}
use Rattle.spur_asm.specs.Context.{first_context, IsWithin}
use Rattle.spur_asm.specs.Draft.{empty_draft}
use Rattle.spur_asm.specs.Text.{draft_from, lines_of}
use Rattle.spur_asm.specs.Told.{told_from}
use Rattle.spur_asm.proofs.SilentTexts.{IsCounted}
use Rattle.spur_asm.proofs.assembler.draft_of.Given as goal

abbrev pub invariant-loop-rest : goal.invariant-loop-rest
invariant-loop-rest l = record {
  so_far : draft_from l.labels l.context l.draft (lines_of l.rest) ≡ draft_from l.labels first_context empty_draft (lines_of l.text);
  told : told_from l.labels l.context l.number (lines_of l.rest) ≡ told_from l.labels first_context 1 (lines_of l.text);
  counted : IsCounted l.draft l.context;
  shorter : length l.rest ≤ length l.text;
  within : IsWithin (length l.text - length l.rest) l.context;
  number : l.number ≤ length l.text - length l.rest + 1;
}

abbrev pub decreases-loop-rest : goal.decreases-loop-rest
decreases-loop-rest l = length l.rest
