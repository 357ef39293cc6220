use Rattle.std.proofs.Common.{◌≡◌, ℕ, ◌*◌, ◌+◌, ◌<◌, None}
use Rattle.spur_flat.specs.TagLines.{tag_in}
use Rattle.spur_flat.proofs.tag_lines.TagLines.holds.Given as goal

abbrev pub invariant-loop-j : goal.invariant-loop-j
invariant-loop-j l = (i : ℕ) → i < l.j → tag_in l.self (l.page * 128 + i) ≡ None
