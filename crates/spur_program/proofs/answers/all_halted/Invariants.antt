use Rattle.std.proofs.Common.{◌≡◌}
use Rattle.std.specs.Prelude.{drop}
use Rattle.std.specs.List.{list_all}
use Rattle.spur_program.specs.Answer.{has_halted}
use Rattle.spur_program.proofs.answers.all_halted.Given as goal

-- all have halted where those have that are left
abbrev pub invariant-loop-board : goal.invariant-loop-board
invariant-loop-board l = list_all has_halted l.boards ≡ list_all has_halted (drop l.board-index l.boards)
