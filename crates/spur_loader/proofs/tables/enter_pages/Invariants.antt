use Rattle.spur_loader.proofs.PageTableFacts.{EntriesSoFar}
use Rattle.spur_loader.proofs.tables.enter_pages.Given as goal

abbrev pub invariant-loop-slot : goal.invariant-loop-slot
invariant-loop-slot l = EntriesSoFar l.roots l.pages l.words l.slot
