use Rattle.std.proofs.Common.{◌≡◌, ◌++◌, drop}
use Rattle.spur_report.specs.Texts.{lines_from}
use Rattle.spur_report.proofs.writing.put_counts.Given as goal

abbrev pub invariant-loop-place : goal.invariant-loop-place
invariant-loop-place l = l.out.items ++ lines_from l.place (drop l.place l.counts.numbers) ≡ l.initial.out.items ++ lines_from 0 l.counts.numbers
