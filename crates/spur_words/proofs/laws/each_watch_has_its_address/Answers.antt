use Rattle.spur_words.proofs.WatchFacts.{each_is_watched, few_are_watched, global_are_watched}
use Rattle.spur_words.proofs.laws.each_watch_has_its_address.Goals as goal

pub returns-clause-each : goal.returns-clause-each
returns-clause-each c = each_is_watched

pub returns-clause-few : goal.returns-clause-few
returns-clause-few c = few_are_watched

pub returns-clause-small : goal.returns-clause-small
returns-clause-small c = global_are_watched
