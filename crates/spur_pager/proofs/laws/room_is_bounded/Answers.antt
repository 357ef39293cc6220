use Rattle.spur_pager.proofs.BoundFacts.{page-lines-are-few, room-is-bounded}
use Rattle.spur_pager.proofs.laws.room_is_bounded.Goals as goal

pub returns-clause-room : goal.returns-clause-room
returns-clause-room c = room-is-bounded

pub returns-clause-lines : goal.returns-clause-lines
returns-clause-lines c = page-lines-are-few
