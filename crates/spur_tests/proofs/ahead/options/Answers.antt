use Rattle.std.proofs.Common.{refl, arith}
use Rattle.spur_tests.proofs.ahead.options.Goals as goal

pub returns : goal.returns
returns c = record {
  some_frames = omega arith;
  few_frames = omega arith;
  lines = record { exponent = 12; power = refl; some_lines = omega arith; few_lines = omega arith };
  some_budget = omega arith;
  few_budget = omega arith;
  ahead = omega arith;
}
