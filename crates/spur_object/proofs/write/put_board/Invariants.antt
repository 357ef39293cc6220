use Rattle.std.proofs.Common.{◌≡◌, ◌++◌, take}
use Rattle.spur_object.specs.Fields.{bytes_of, instr_fields}
use Rattle.spur_object.specs.Reading.{list_fields}
use Rattle.spur_object.proofs.write.put_board.Given as goal

abbrev pub invariant-loop-instr : goal.invariant-loop-instr
invariant-loop-instr l = l.out.items ≡ l.initial.out.items ++ bytes_of (list_fields instr_fields (take l.instr-index l.board.code))
