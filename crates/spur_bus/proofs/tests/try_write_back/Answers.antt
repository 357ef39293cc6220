use Rattle.std.proofs.Common.{◌∙◌, ap, map, refl, sym}
use Rattle.spur_snoop.specs.Protocol.{is_owned}
use Rattle.spur_bus.proofs.TestFacts.{has-line}
use Rattle.spur_bus.proofs.tests.try_write_back.Goals as goal

pub write_back-requires-clause-there : goal.write_back-requires-clause-there
write_back-requires-clause-there g c = has-line (map g.T.HasCache.lens.lines_of c.args.boards.now) c.args.b c.args.at is_owned
    refl (ap is_owned (sym c.state.ensures) ∙ sym c.is_owned.ensures ∙ c.if-not-is_owned.false)
