use Rattle.std.proofs.Common.{refl, ◌∙◌}
use Rattle.spur_turns.proofs.tests.find_in_turn.Goals as goal

pub own_turn-begun-requires-clause-even : goal.own_turn-begun-requires-clause-even
own_turn-begun-requires-clause-even g c = record { half = 2; twice = refl }

pub own_turn-busy-requires-clause-table : goal.own_turn-busy-requires-clause-table
own_turn-busy-requires-clause-table g c = c.own_turn-begun.ensures.table ∙ c.requires.first.0

pub own_turn-busy-requires-clause-idle : goal.own_turn-busy-requires-clause-idle
own_turn-busy-requires-clause-idle g c = c.own_turn-begun.ensures.holds ∙ c.requires.first.1

pub own_turn-busy-requires-clause-even : goal.own_turn-busy-requires-clause-even
own_turn-busy-requires-clause-even g c = record { half = 1; twice = refl }

pub give_all-requires-clause-good : goal.give_all-requires-clause-good
give_all-requires-clause-good g c = record { bus_is = record { half = 2; twice = refl }; each = c.take_all-bus.ensures.good.each }

pub own_turn-ended-requires-clause-table : goal.own_turn-ended-requires-clause-table
own_turn-ended-requires-clause-table g c = c.own_turn-busy.ensures.table ∙ (c.own_turn-begun.ensures.table ∙ c.requires.first.0)

pub own_turn-ended-requires-clause-idle : goal.own_turn-ended-requires-clause-idle
own_turn-ended-requires-clause-idle g c = c.own_turn-busy.ensures.holds ∙ (c.own_turn-begun.ensures.holds ∙ c.requires.first.1)

pub own_turn-ended-requires-clause-even : goal.own_turn-ended-requires-clause-even
own_turn-ended-requires-clause-even g c = record { half = 1; twice = refl }
