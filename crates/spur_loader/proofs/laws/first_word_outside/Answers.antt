-- The laws of a word outside.
use Rattle.spur_loader.proofs.OutsideFacts.{outside_is_first, none_outside}
use Rattle.spur_loader.proofs.laws.first_word_outside.Goals as goal

pub returns-clause-first : goal.returns-clause-first
returns-clause-first c = outside_is_first

pub returns-clause-none : goal.returns-clause-none
returns-clause-none c = none_outside
