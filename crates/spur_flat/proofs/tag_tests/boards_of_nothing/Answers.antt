use Rattle.std.proofs.Common.{arith, refl}
use Rattle.spur_flat.proofs.tag_tests.boards_of_nothing.Goals as goal

pub new-requires-clause-lines : goal.new-requires-clause-lines
new-requires-clause-lines c = record { exponent = 4; power = refl; some_lines = omega arith; few_lines = omega arith }
