use Rattle.spur_loader.proofs.SwapSlotFacts.{WordsSoFar}
use Rattle.spur_loader.proofs.tables.swap_slots.Given as goal

abbrev pub invariant-loop-word : goal.invariant-loop-word
invariant-loop-word l = WordsSoFar l.pages l.words l.held.items l.word-index
