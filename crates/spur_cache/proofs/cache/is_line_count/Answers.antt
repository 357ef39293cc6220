use Rattle.std.proofs.Common.{arith}
use Rattle.spur_cache.proofs.SizeFacts.{counted}
use Rattle.spur_cache.proofs.cache.is_line_count.Goals as goal

pub returns-in-16-to-4096 : goal.returns-in-16-to-4096
returns-in-16-to-4096 c = counted c.args.lines c.is_power_of_two.result c.is_power_of_two.ensures (omega arith) (omega arith)
