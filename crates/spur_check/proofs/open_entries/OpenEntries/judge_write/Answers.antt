use Rattle.std.proofs.Common.{◌∙◌}
use Rattle.spur_check.proofs.Serves.{served}
use Rattle.spur_check.proofs.open_entries.OpenEntries.judge_write.Goals as goal

pub returns : goal.returns
returns c = c.judge_served.ensures ∙ served c.args.lines c.args.self.now _ _ _ _ c.access_blocks.ensures c.block.ensures.value
