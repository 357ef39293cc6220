use Rattle.spur_flat.proofs.WellFormedFacts.{allowed_is_well_formed, legal_but_values, legal_is_well_formed}
use Rattle.spur_flat.proofs.laws.legal_is_well_formed.Goals as goal

pub returns-clause-entry : goal.returns-clause-entry
returns-clause-entry c = allowed_is_well_formed

pub returns-clause-history : goal.returns-clause-history
returns-clause-history c = legal_is_well_formed

pub returns-clause-but_values : goal.returns-clause-but_values
returns-clause-but_values c = legal_but_values
