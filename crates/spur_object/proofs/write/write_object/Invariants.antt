use Rattle.std.proofs.Common.{◌≡◌, ◌++◌, take}
use Rattle.spur_object.specs.Fields.{board_fields, bytes_of, page_fields, word_fields}
use Rattle.spur_object.specs.Reading.{list_fields}
use Rattle.spur_object.proofs.write.write_object.Given as goal

abbrev pub invariant-loop-board : goal.invariant-loop-board
invariant-loop-board l = l.out.items ≡ l.initial.out.items ++ bytes_of (list_fields board_fields (take l.board-index l.unit.boards))

abbrev pub invariant-loop-page : goal.invariant-loop-page
invariant-loop-page l = l.out.items ≡ l.initial.out.items ++ bytes_of (list_fields page_fields (take l.page-index l.unit.pages))

abbrev pub invariant-loop-word : goal.invariant-loop-word
invariant-loop-word l = l.out.items ≡ l.initial.out.items ++ bytes_of (list_fields word_fields (take l.word-index l.unit.words))
