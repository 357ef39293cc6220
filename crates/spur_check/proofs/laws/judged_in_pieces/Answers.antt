use Rattle.spur_check.proofs.Fits.{good-where-it-fits}
use Rattle.spur_check.proofs.Verdicts.{bad-where-it-turns, good-has-length, in-pieces}
use Rattle.spur_check.proofs.laws.judged_in_pieces.Goals as goal

pub returns-clause-pieces : goal.returns-clause-pieces
returns-clause-pieces g c = in-pieces g.C.Cpu.meaning

pub returns-clause-good : goal.returns-clause-good
returns-clause-good g c = good-where-it-fits g.C.Cpu.meaning

pub returns-clause-length : goal.returns-clause-length
returns-clause-length g c = good-has-length g.C.Cpu.meaning

pub returns-clause-bad : goal.returns-clause-bad
returns-clause-bad g c = bad-where-it-turns g.C.Cpu.meaning
