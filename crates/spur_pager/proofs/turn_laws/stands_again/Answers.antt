use Rattle.spur_pager.proofs.AgainFacts.{same-has-stepped, same-stands-again, step-has-stepped, step-stands-again, steps-add-up, steps-stand-again}
use Rattle.spur_pager.proofs.turn_laws.stands_again.Goals as goal

pub returns-clause-step : goal.returns-clause-step
returns-clause-step c = step-stands-again

pub returns-clause-steps : goal.returns-clause-steps
returns-clause-steps c = steps-stand-again

pub returns-clause-same : goal.returns-clause-same
returns-clause-same c = same-stands-again

pub returns-clause-one : goal.returns-clause-one
returns-clause-one c = step-has-stepped

pub returns-clause-none : goal.returns-clause-none
returns-clause-none c = same-has-stepped

pub returns-clause-more : goal.returns-clause-more
returns-clause-more c = steps-add-up
