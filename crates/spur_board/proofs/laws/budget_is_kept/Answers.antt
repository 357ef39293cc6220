use Rattle.spur_board.proofs.BudgetFacts.{completes-within-budget}
use Rattle.spur_board.proofs.laws.budget_is_kept.Goals as goal

pub returns : goal.returns
returns g c = completes-within-budget g.C.Cpu.meaning
