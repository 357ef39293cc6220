use Rattle.std.proofs.Common.{refl, arith}
use Rattle.spur_input.proofs.tests.usual_options.Goals as goal

pub returns-clause-range : goal.returns-clause-range
returns-clause-range c = record {
  some_frames = omega arith;
  few_frames = omega arith;
  lines = record { exponent = 12; power = refl; some_lines = omega arith; few_lines = omega arith };
  some_budget = omega arith;
  few_budget = omega arith;
  ahead = omega arith;
}
