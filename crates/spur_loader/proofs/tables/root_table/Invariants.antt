use Rattle.spur_loader.proofs.RootTableFacts.{RootsSoFar}
use Rattle.spur_loader.proofs.tables.root_table.Given as goal

abbrev pub invariant-loop-table : goal.invariant-loop-table
invariant-loop-table l = RootsSoFar l.roots l.words.items l.table
