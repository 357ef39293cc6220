use Rattle.std.proofs.Common.{arith}
use Rattle.spur_pager.specs.View.{View, seen}
use Rattle.spur_pager.proofs.AheadFacts.{flushed_within}
use Rattle.spur_pager.proofs.flush.flush_page.Goals as goal

pub returns-clause-flushes : goal.returns-clause-flushes
returns-clause-flushes g c =
    let w : View = seen g.B.Backing.meaning g.T.HasCache.lens c.args.boards.now c.args.store.now in
    let v : View = seen g.B.Backing.meaning g.T.HasCache.lens c.flush_first.new.boards c.flush_first.new.store in
    flushed_within c.args.b c.args.page 4294967295 w v c.flush_first.result c.requires.stands (omega arith) c.flush_first.ensures.flushes
