use Rattle.std.proofs.Common.{◌≡◌, drop}
use Rattle.spur_words.specs.Words.{flag_among}
use Rattle.spur_words.proofs.table.Flag.among.Given as goal

abbrev pub invariant-loop-flag : goal.invariant-loop-flag
invariant-loop-flag l = flag_among (drop l.flag-index l.flags) l.name ≡ flag_among l.flags l.name
