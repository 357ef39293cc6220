use Rattle.spur_input.proofs.CutFacts.{nothing_seen}
use Rattle.spur_input.proofs.cut.program_length.Goals as goal

pub loop-place-init : goal.loop-place-init
loop-place-init c = nothing_seen c.args.input.now
