use Rattle.std.proofs.Common.{◌≡◌, ◌<◌, ℕ, true, get_or}
use Rattle.spur_asm.specs.Bytes.{is_number_byte}
use Rattle.spur_asm.proofs.bytes.number_bytes.Given as goal

abbrev pub invariant-loop-i : goal.invariant-loop-i
invariant-loop-i l = (k : ℕ) → k < l.i → is_number_byte (get_or l.bytes k 0) ≡ true
