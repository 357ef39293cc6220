use Rattle.std.proofs.Common.{◌∙◌, ap, map, refl, sym}
use Rattle.spur_snoop.specs.Protocol.{is_alive}
use Rattle.spur_bus.proofs.TestFacts.{has-line}
use Rattle.spur_bus.proofs.tests.try_flush.Goals as goal

pub block_flush-requires-clause-there : goal.block_flush-requires-clause-there
block_flush-requires-clause-there g c = has-line (map g.T.HasCache.lens.lines_of c.args.boards.now) c.args.holder c.args.at is_alive
    refl (ap is_alive (sym c.state.ensures) ∙ sym c.is_valid.ensures ∙ c.if-not-is_valid.false)
