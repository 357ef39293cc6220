use Rattle.spur_pager.proofs.AheadStepFacts.{ahead-fits}
use Rattle.spur_pager.proofs.ReserveFacts.{fault-has-room, moved-leaves-room, served-leaves-room, steps-leave-room, turn-room-is-bounded, ahead-leaves-room}
use Rattle.spur_pager.proofs.turn_laws.turn_has_room.Goals as goal

pub returns-clause-fault : goal.returns-clause-fault
returns-clause-fault c = fault-has-room

pub returns-clause-served : goal.returns-clause-served
returns-clause-served c = served-leaves-room

pub returns-clause-moved : goal.returns-clause-moved
returns-clause-moved c = moved-leaves-room

pub returns-clause-steps : goal.returns-clause-steps
returns-clause-steps c = steps-leave-room

pub returns-clause-bounded : goal.returns-clause-bounded
returns-clause-bounded c = turn-room-is-bounded

pub returns-clause-ahead : goal.returns-clause-ahead
returns-clause-ahead c = ahead-leaves-room

pub returns-clause-fits : goal.returns-clause-fits
returns-clause-fits c = ahead-fits
