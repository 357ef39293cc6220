use Rattle.std.proofs.Common.{ap, sym, ◌∙◌}
use Rattle.spur_asm.specs.Context.{is_label}
use Rattle.spur_asm.proofs.LabelTable.{any_before, is_below}
use Rattle.spur_asm.proofs.table.Labels.has_before.Goals as goal

pub returns-in-Some : goal.returns-in-Some
returns-in-Some c = ap (is_below c.args.count) (sym c.in-Some.is ∙ c.number_of.ensures.number) ∙ any_before (is_label c.args.board c.args.name.now) c.args.count c.args.self.now

pub returns-in-None : goal.returns-in-None
returns-in-None c = ap (is_below c.args.count) (sym c.in-None.is ∙ c.number_of.ensures.number) ∙ any_before (is_label c.args.board c.args.name.now) c.args.count c.args.self.now
