use Rattle.spur_flat.proofs.WorkedFacts.{many-lines-are-needed, one-line-is-needed}
use Rattle.spur_flat.proofs.state_laws.worked_histories_are_needed.Goals as goal

pub returns-clause-many_lines : goal.returns-clause-many_lines
returns-clause-many_lines c = many-lines-are-needed

pub returns-clause-one_line : goal.returns-clause-one_line
returns-clause-one_line c = one-line-is-needed
