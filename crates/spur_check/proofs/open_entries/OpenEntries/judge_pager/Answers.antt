use Rattle.std.proofs.Common.{◌∙◌, ap}
use Rattle.spur_addr.specs.Address.{block_of}
use Rattle.spur_check.proofs.Serves.{served}
use Rattle.spur_check.proofs.open_entries.OpenEntries.judge_pager.Goals as goal

pub returns : goal.returns
returns c = c.judge_served.ensures ∙ served c.args.lines c.args.self.now _ _ _ _ c.pager_blocks.ensures (c.block.ensures.value ∙ ap block_of c.pte_of.ensures.value)
