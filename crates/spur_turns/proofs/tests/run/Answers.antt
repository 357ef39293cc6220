use Rattle.std.proofs.Common.{rules}
use Rattle.spur_turns.proofs.TestFacts.{all_can_turn, all_have_turned}
use Rattle.spur_turns.proofs.tests.run.Goals as goal

pub run_each-requires : goal.run_each-requires
run_each-requires g c = (search rules, all_can_turn _ _ c.requires)

pub returns : goal.returns
returns g c = all_have_turned _ _ _ (search rules) c.requires c.run_each.ensures
