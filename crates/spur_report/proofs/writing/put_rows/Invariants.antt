use Rattle.std.proofs.Common.{◌≡◌, ◌++◌, drop}
use Rattle.spur_report.specs.Texts.{rows_text}
use Rattle.spur_report.proofs.writing.put_rows.Given as goal

abbrev pub invariant-loop-number : goal.invariant-loop-number
invariant-loop-number l = l.out.items ++ rows_text l.what l.number (drop l.number l.rows) ≡ l.initial.out.items ++ rows_text l.what 0 l.rows
