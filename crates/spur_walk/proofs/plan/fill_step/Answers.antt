use Rattle.std.proofs.Common.{◌∙◌, sym, ap}
use Rattle.std.specs.Option.{option_copied}
use Rattle.spur_walk.proofs.PlanFacts.{victim_small}
use Rattle.spur_walk.proofs.plan.fill_step.Goals as goal

pub block_start-requires : goal.block_start-requires
block_start-requires c = victim_small c.args.own.now c.args.at c.in-Some.line.now c.requires.cache (sym c.victim.ensures ∙ ap option_copied c.in-Some.is)
