use Rattle.spur_flat.specs.TagLines.{snooped_board}
use Rattle.spur_flat.proofs.EachFacts.{each_step}
use Rattle.spur_flat.proofs.tags.see_all.Goals as goal

pub loop-k-preserved : goal.loop-k-preserved
loop-k-preserved c =
    let both = each_step (snooped_board c.args.own c.args.block c.args.kind c.args.mine) c.loop-k.boards c.args.boards.now c.loop-k.k c.index-boards-k.result c.see.new.lines
    c.loop-k-test.true c.loop-k.auto.boards c.loop-k.invariant.done c.loop-k.invariant.left c.see.ensures in
    record { done = both.0; left = both.1 }
