use Rattle.spur_cache.proofs.LawFacts.{page-lines-ascend, page-lines-hold-it}
use Rattle.spur_cache.proofs.laws.page_lines_are_those_of_the_page.Goals as goal

pub returns-clause-hold : goal.returns-clause-hold
returns-clause-hold c = page-lines-hold-it

pub returns-clause-ascend : goal.returns-clause-ascend
returns-clause-ascend c = page-lines-ascend
