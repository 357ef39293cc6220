use Rattle.spur_input.proofs.CutFacts.{HasCome}
use Rattle.spur_input.proofs.cut.program_length.Given as goal

abbrev pub invariant-loop-place : goal.invariant-loop-place
invariant-loop-place l = HasCome l.fn.input l.place l.begins
