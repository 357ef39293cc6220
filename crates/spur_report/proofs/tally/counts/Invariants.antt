use Rattle.std.proofs.Common.{◌≡◌, take}
use Rattle.spur_report.specs.Counts.{counts_of}
use Rattle.spur_report.proofs.tally.counts.Given as goal

abbrev pub invariant-loop-entry : goal.invariant-loop-entry
invariant-loop-entry l = l.numbers ≡ counts_of (take l.entry-index l.entries)
