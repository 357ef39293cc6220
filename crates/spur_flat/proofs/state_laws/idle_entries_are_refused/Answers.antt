use Rattle.spur_flat.proofs.WorkedFacts.{claimed-entry-is-greedy, claimed-entry-is-refused, other-line-is-refused, other-line-is-useless, other-root-is-refused, other-root-is-useless, owned-root-is-greedy, owned-root-is-refused, seventh-is-refused, seventh-is-too-many, sixth-is-not}
use Rattle.spur_flat.proofs.state_laws.idle_entries_are_refused.Goals as goal

pub returns-clause-useless : goal.returns-clause-useless
returns-clause-useless c = other-root-is-useless

pub returns-clause-useless_refused : goal.returns-clause-useless_refused
returns-clause-useless_refused c = other-root-is-refused

pub returns-clause-greedy : goal.returns-clause-greedy
returns-clause-greedy c = owned-root-is-greedy

pub returns-clause-greedy_refused : goal.returns-clause-greedy_refused
returns-clause-greedy_refused c = owned-root-is-refused

pub returns-clause-useless_line : goal.returns-clause-useless_line
returns-clause-useless_line c = other-line-is-useless

pub returns-clause-useless_line_refused : goal.returns-clause-useless_line_refused
returns-clause-useless_line_refused c = other-line-is-refused

pub returns-clause-greedy_claim : goal.returns-clause-greedy_claim
returns-clause-greedy_claim c = claimed-entry-is-greedy

pub returns-clause-greedy_claim_refused : goal.returns-clause-greedy_claim_refused
returns-clause-greedy_claim_refused c = claimed-entry-is-refused

pub returns-clause-sixth : goal.returns-clause-sixth
returns-clause-sixth c = sixth-is-not

pub returns-clause-seventh : goal.returns-clause-seventh
returns-clause-seventh c = seventh-is-too-many

pub returns-clause-seventh_refused : goal.returns-clause-seventh_refused
returns-clause-seventh_refused c = seventh-is-refused
