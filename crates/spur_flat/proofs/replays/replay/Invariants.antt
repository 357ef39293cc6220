use Rattle.std.proofs.Common.{◌≡◌, length}
use Rattle.spur_flat.specs.Validity.{IsValidFlat}
use Rattle.spur_flat.proofs.replays.replay.Given as goal

abbrev pub invariant-loop-entry : goal.invariant-loop-entry
invariant-loop-entry g l = record { valid : IsValidFlat l.flat; one_board : length l.tags ≡ 1 }
