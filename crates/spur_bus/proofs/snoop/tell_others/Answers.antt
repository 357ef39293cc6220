use Rattle.std.proofs.Common.{◌∙◌, ap, sym, subst}
use Rattle.spur_cache.specs.Lens.{OnlyLines, caches}
use Rattle.spur_bus.specs.Boards.{changed_board, snooped_unless}
use Rattle.spur_bus.proofs.EachFacts.{each_done, each_step}
use Rattle.spur_bus.proofs.LensFacts.{caches-each, only_lines-each}
use Rattle.spur_bus.proofs.snoop.tell_others.Goals as goal

pub loop-k-preserved : goal.loop-k-preserved
loop-k-preserved g c =
    let change = changed_board g.T.HasCache.lens (snooped_unless c.args.own c.args.at c.args.kind) in
    let both = each_step change c.loop-k.boards c.args.boards.now c.loop-k.k c.index-boards-k.result c.tell_board.new.board
    c.loop-k-test.true c.loop-k.auto.boards c.loop-k.invariant.done c.loop-k.invariant.left c.tell_board.ensures in
    record { done = both.0; left = both.1 }

pub returns : goal.returns
returns g c =
    let lens = g.T.HasCache.lens in
    let unless = snooped_unless c.args.own c.args.at c.args.kind in
    let all = each_done (changed_board lens unless) c.loop-k.boards c.args.boards.now c.loop-k.k c.loop-k-test.false c.loop-k.auto.boards c.loop-k.invariant.done in record {
      change = ap (caches lens) all ∙ caches-each lens g.met.T.HasCache.lawful unless 0 c.args.boards.now;
      lens = subst (λ now. OnlyLines lens c.args.boards.now now) (sym all) (only_lines-each lens g.met.T.HasCache.lawful unless 0 c.args.boards.now);
    }
