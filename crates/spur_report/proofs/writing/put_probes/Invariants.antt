use Rattle.std.proofs.Common.{◌≡◌, ◌++◌, drop}
use Rattle.spur_report.specs.Texts.{probes_text}
use Rattle.spur_report.proofs.writing.put_probes.Given as goal

abbrev pub invariant-loop-number : goal.invariant-loop-number
invariant-loop-number l = l.out.items ++ probes_text l.number (drop l.number l.lines) ≡ l.initial.out.items ++ probes_text 0 l.lines
