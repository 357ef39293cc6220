-- The laws of a page that is declared again.
use Rattle.spur_loader.proofs.AgainFacts.{again_is_first, none_again}
use Rattle.spur_loader.proofs.laws.first_page_again.Goals as goal

pub returns-clause-first : goal.returns-clause-first
returns-clause-first c = again_is_first

pub returns-clause-none : goal.returns-clause-none
returns-clause-none c = none_again
