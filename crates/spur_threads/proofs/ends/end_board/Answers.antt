use Rattle.std.proofs.Common.{◌∙◌, ◌^◌, List, subst}
use Rattle.spur_board.specs.declared.board.Board.{Board}
use Rattle.spur_threads.specs.Turns.{IsGoingAt}
use Rattle.spur_threads.proofs.EndFacts.{left_less, others_then}
use Rattle.spur_threads.proofs.ends.end_board.Goals as goal

pub loop-retired-smaller : goal.loop-retired-smaller
loop-retired-smaller g c =
    let b = c.args.b in
    let olds : List (Board g.row.C.Denot) = c.loop-retired.world.boards.items in
    let at : IsGoingAt olds b c.in-Some.retired = subst (λ (bs : List (Board g.row.C.Denot)). IsGoingAt bs b c.in-Some.retired) c.deref.ensures.value c.in-Some.ensures.some in
    left_less (2 ^ 32) b c.in-Some.retired olds c.whole_turn.new.world.boards.items c.in-Some.ensures.few at c.in_ok-whole_turn-in-Some.ensures.moved

pub loop-retired-preserved : goal.loop-retired-preserved
loop-retired-preserved g c =
    let was = c.loop-retired.invariant in
    let now = c.whole_turn.ensures in
    record {
      good = now.good;
      beginning = now.beginning ∙ was.beginning;
      count = now.count ∙ was.count;
      others = others_then c.args.b c.args.world.now.boards.items c.loop-retired.world.boards.items c.whole_turn.new.world.boards.items was.count was.others now.others;
    }

pub returns-in_err-whole_turn-in-Some-clause-others : goal.returns-in_err-whole_turn-in-Some-clause-others
returns-in_err-whole_turn-in-Some-clause-others g c =
    others_then c.args.b c.args.world.now.boards.items c.loop-retired.world.boards.items c.whole_turn.new.world.boards.items c.loop-retired.invariant.count c.loop-retired.invariant.others c.whole_turn.ensures.others
