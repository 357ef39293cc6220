-- What threads share and what goes to them.
use denote.Param.Send.{IsSync, sendable}
use denote.RattleType.{RattleType}
use Rattle.std.proofs.Crossing.{crosses}
use Rattle.std.specs.contracts.sync.atomic.AtomicBool as flag_type

pub flag_sync : IsSync flag_type.the_row
flag_sync = search (sendable, crosses) depth 20

-- of what type it is that may be shared
abbrev pub row_of : {R : RattleType} → IsSync R → RattleType
row_of {R} s = R
