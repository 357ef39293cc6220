use Rattle.std.proofs.Common.{arith}
use Rattle.spur_turns.proofs.tests.sum_or_first.Goals as goal

pub returns-in-Some : goal.returns-in-Some
returns-in-Some c = let twice = c.requires.twice in let sum = c.in-Some.ensures in record { half = c.requires.half; more = omega (arith, twice, sum) }

pub returns-in-None : goal.returns-in-None
returns-in-None c = record { half = 0; more = omega arith }
