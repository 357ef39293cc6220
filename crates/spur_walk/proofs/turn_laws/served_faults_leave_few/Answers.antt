use Rattle.spur_walk.proofs.LeftFacts.{found-steps, served-leaves}
use Rattle.spur_walk.proofs.turn_laws.served_faults_leave_few.Goals as goal

pub returns-clause-fetch : goal.returns-clause-fetch
returns-clause-fetch c = served-leaves

pub returns-clause-found : goal.returns-clause-found
returns-clause-found c = found-steps
