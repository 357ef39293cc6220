use Rattle.spur_check.proofs.Moves.{HasCome}
use Rattle.spur_check.proofs.judging.check.Given as goal

abbrev pub invariant-loop-k : goal.invariant-loop-k
invariant-loop-k l = HasCome l.fn.opening l.fn.entries l.k l.checker
