use Rattle.spur_plain.proofs.InvisibleFacts.{legal-stays-invisible, paging-is-invisible, paging-is-invisible-but-values}
use Rattle.spur_plain.proofs.paging_is_invisible.Goals as goal

pub returns-clause-told : goal.returns-clause-told
returns-clause-told c = paging-is-invisible

pub returns-clause-but_values : goal.returns-clause-but_values
returns-clause-but_values c = paging-is-invisible-but-values

pub returns-clause-stays : goal.returns-clause-stays
returns-clause-stays c = legal-stays-invisible
