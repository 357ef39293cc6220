use Rattle.std.proofs.Common.{sym, ◌∙◌, arith}
use Rattle.spur_trace.proofs.NumberFacts.{digits_full}
use Rattle.spur_trace.proofs.cursor.Cursor.digits.Goals as goal

pub returns : goal.returns
returns c = sym c.loop-number.invariant.so_far ∙ digits_full c.loop-number.number c.loop-number.self (omega arith)
