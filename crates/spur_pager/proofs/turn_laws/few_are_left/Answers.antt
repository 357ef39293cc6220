use Rattle.spur_pager.proofs.FewFacts.{leaving-lines-stay-few, served-leaves-few}
use Rattle.spur_pager.proofs.turn_laws.few_are_left.Goals as goal

pub returns-clause-served : goal.returns-clause-served
returns-clause-served c = served-leaves-few

pub returns-clause-leaving : goal.returns-clause-leaving
returns-clause-leaving c = leaving-lines-stay-few
