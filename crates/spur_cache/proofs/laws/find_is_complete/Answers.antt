use Rattle.spur_cache.proofs.LawFacts.{found_has_the_block, found_where_it_stands}
use Rattle.spur_cache.proofs.laws.find_is_complete.Goals as goal

pub returns-clause-stands : goal.returns-clause-stands
returns-clause-stands c = found_where_it_stands

pub returns-clause-block : goal.returns-clause-block
returns-clause-block c = found_has_the_block
