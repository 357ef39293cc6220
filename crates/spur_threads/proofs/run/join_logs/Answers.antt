use Rattle.std.proofs.Common.{List, subst, sym}
use Rattle.spur_board.specs.declared.board.Board.{Board}
use Rattle.spur_core.specs.Boards.{LogsAreEmpty}
use Rattle.spur_core.proofs.MergedFacts.{empty_emptied}
use Rattle.spur_threads.proofs.EndFacts.{ended_emptied}
use Rattle.spur_threads.proofs.run.join_logs.Goals as goal

pub returns-in-Ok-clause-empty : goal.returns-in-Ok-clause-empty
returns-in-Ok-clause-empty g c =
    subst (λ (bs : List (Board g.row.C.Denot)). LogsAreEmpty bs) (sym c.in-Ok.ensures.merged.boards) (empty_emptied c.args.world.boards.items)

pub returns-in-Ok-clause-ended : goal.returns-in-Ok-clause-ended
returns-in-Ok-clause-ended g c = ended_emptied c.args.world.boards.items c.merge.new.self.boards.items c.in-Ok.ensures.merged.boards
