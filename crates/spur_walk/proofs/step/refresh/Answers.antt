use Rattle.spur_bus.proofs.LensFacts.{only_lines-set}
use Rattle.spur_walk.proofs.StepFacts.{dirtied_caches}
use Rattle.spur_walk.proofs.step.refresh.Goals as goal

pub returns-clause-change : goal.returns-clause-change
returns-clause-change g c =
    dirtied_caches g.T.HasCache.lens g.met.T.HasCache.lawful c.args.b c.args.at c.args.boards.now c.index-boards-b.result c.set_line_dirty.new.self c.requires.own c.set_line_dirty.ensures

pub returns-clause-lens : goal.returns-clause-lens
returns-clause-lens g c =
    only_lines-set g.T.HasCache.lens g.met.T.HasCache.lawful c.args.boards.now c.args.b c.index-boards-b.result c.set_line_dirty.new.self _ c.requires.own c.set_line_dirty.ensures
