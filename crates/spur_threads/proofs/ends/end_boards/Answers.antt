use Rattle.std.proofs.Common.{◌∙◌, ◌<◌, List, get_or, arith}
use Rattle.std.proofs.lemmas.Option.{slice_get-get_or}
use Rattle.spur_board.specs.declared.board.Board.{Board}
use Rattle.spur_threads.proofs.EndFacts.{ended_next}
use Rattle.spur_threads.proofs.ends.end_boards.Goals as goal

pub loop-b-preserved : goal.loop-b-preserved
loop-b-preserved g c =
    let was = c.loop-b.invariant in
    let now = c.end_board.ensures in
    record {
      good = now.good;
      beginning = now.beginning ∙ was.beginning;
      count = now.count ∙ was.count;
      ended = ended_next c.loop-b.b c.loop-b.world.boards.items c.end_board.new.world.boards.items now.count was.ended now.others c.in_ok-end_board.ensures.ended;
    }

pub returns-clause-ended : goal.returns-clause-ended
returns-clause-ended g c = λ k d within.
    let bs : List (Board g.row.C.Denot) = c.loop-b.world.boards.items in
    let past = c.loop-b-test.false in
    let all = c.len-count.ensures in
    let same = c.loop-b.invariant.count in
    let low : k < c.loop-b.b = omega arith in
    c.loop-b.invariant.ended.each k (get_or bs k d) low (slice_get-get_or bs k d within)
