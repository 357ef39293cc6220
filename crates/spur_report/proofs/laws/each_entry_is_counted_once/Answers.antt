use Rattle.spur_report.proofs.CountFacts.{counts_add_up, one_count}
use Rattle.spur_report.proofs.laws.each_entry_is_counted_once.Goals as goal

pub returns-clause-one : goal.returns-clause-one
returns-clause-one c = one_count

pub returns-clause-sum : goal.returns-clause-sum
returns-clause-sum c = counts_add_up
