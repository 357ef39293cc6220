use Rattle.spur_walk.proofs.AskedFacts.{found-plan-is-the-tables, look-is-the-tables, page-plan-is-the-tables, plan-is-the-tables}
use Rattle.spur_walk.proofs.turn_laws.plans_ask_as_the_table.Goals as goal

pub returns-clause-look : goal.returns-clause-look
returns-clause-look c = look-is-the-tables

pub returns-clause-access : goal.returns-clause-access
returns-clause-access c = plan-is-the-tables

pub returns-clause-found : goal.returns-clause-found
returns-clause-found c = found-plan-is-the-tables

pub returns-clause-page : goal.returns-clause-page
returns-clause-page c = page-plan-is-the-tables
