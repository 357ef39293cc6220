use Rattle.spur_walk.proofs.ValidFacts.{like-tables, valid-tables}
use Rattle.spur_walk.proofs.laws.valid_states_have_tables.Goals as goal

pub returns-clause-valid : goal.returns-clause-valid
returns-clause-valid c = valid-tables

pub returns-clause-like : goal.returns-clause-like
returns-clause-like c = like-tables
