use Rattle.std.proofs.Common.{take}
use Rattle.std.specs.Prelude.{All}
use Rattle.spur_flat.specs.Blocks.{IsOfBoards}
use Rattle.spur_check.proofs.tests.are_of_boards.Given as goal

abbrev pub invariant-loop-entry : goal.invariant-loop-entry
invariant-loop-entry l = All (IsOfBoards l.boards) (take l.entry-index l.entries)
