use Rattle.std.proofs.Common.{◌≡◌, ◌++◌, take}
use Rattle.std.specs.List.{flat_map}
use Rattle.spur_report.specs.Texts.{shown_line}
use Rattle.spur_report.proofs.writing.put_shown_lines.Given as goal

abbrev pub invariant-loop-value : goal.invariant-loop-value
invariant-loop-value l = l.out.items ≡ l.initial.out.items ++ flat_map (shown_line l.number) (take l.value-index l.values)
