use Rattle.spur_flat.proofs.PieceFacts.{carried-append, leads-untold-append, untold-append}
use Rattle.spur_flat.proofs.state_laws.pieces_join.Goals as goal

pub returns-clause-told : goal.returns-clause-told
returns-clause-told c = carried-append

pub returns-clause-untold : goal.returns-clause-untold
returns-clause-untold c = untold-append

pub returns-clause-untold_from_one : goal.returns-clause-untold_from_one
returns-clause-untold_from_one c = leads-untold-append
