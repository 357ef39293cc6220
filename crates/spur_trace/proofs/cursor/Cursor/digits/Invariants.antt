use Rattle.std.proofs.Common.{◌≡◌, ◌<◌, ◌^◌, length}
use Rattle.spur_trace.specs.Reading.{digits_on}
use Rattle.spur_trace.proofs.cursor.Cursor.digits.Given as goal

abbrev pub invariant-loop-number : goal.invariant-loop-number
invariant-loop-number l = record {
  so_far : digits_on l.number l.self ≡ digits_on l.initial.number l.initial.self;
  small : l.number < 10 ^ 9;
}

abbrev pub decreases-loop-number : goal.decreases-loop-number
decreases-loop-number l = length l.self
