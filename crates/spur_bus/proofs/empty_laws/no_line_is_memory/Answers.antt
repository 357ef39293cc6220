use Rattle.spur_bus.proofs.NoLineFacts.{no-line-is-memory}
use Rattle.spur_bus.proofs.empty_laws.no_line_is_memory.Goals as goal

pub returns : goal.returns
returns c = no-line-is-memory
