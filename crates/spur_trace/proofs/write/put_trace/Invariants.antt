use Rattle.std.proofs.Common.{◌≡◌, ◌++◌, take}
use Rattle.std.specs.List.{All, flat_map}
use Rattle.spur_flat.specs.WellFormed.{HasWord}
use Rattle.spur_text.specs.Written.{onto}
use Rattle.spur_trace.specs.Line.{entry_line, header_line}
use Rattle.spur_trace.proofs.write.put_trace.Given as goal

abbrev pub invariant-loop-entry : goal.invariant-loop-entry
invariant-loop-entry l = record {
  text : l.out ≡ onto l.fn.out (header_line l.head ++ flat_map entry_line (take l.entry-index l.entries));
  words : All HasWord (take l.entry-index l.entries);
}
