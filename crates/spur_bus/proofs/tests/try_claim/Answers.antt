use Rattle.std.proofs.Common.{◌∙◌, ap, map, refl, sym}
use Rattle.spur_flat.specs.TagRules.{may_claim}
use Rattle.spur_bus.proofs.TestFacts.{has-line}
use Rattle.spur_bus.proofs.tests.try_claim.Goals as goal

pub claim-requires-clause-there : goal.claim-requires-clause-there
claim-requires-clause-there g c = has-line (map g.T.HasCache.lens.lines_of c.args.boards.now) c.args.b c.args.at may_claim
    refl (ap may_claim (sym c.state.ensures) ∙ sym c.can_claim.ensures ∙ c.if-not-can_claim.false)
