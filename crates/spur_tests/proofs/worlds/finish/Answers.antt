use Rattle.std.proofs.Common.{subst, sym}
use Rattle.spur_core.specs.Boards.{LogsAreEmpty}
use Rattle.spur_core.proofs.MergedFacts.{empty_emptied}
use Rattle.spur_tests.proofs.worlds.finish.Goals as goal

pub finish-requires-clause-quiet : goal.finish-requires-clause-quiet
finish-requires-clause-quiet g c =
    subst LogsAreEmpty (sym c.in_ok-merge.ensures.merged.boards) (empty_emptied c.args.world.now.boards.items)
