use Rattle.std.proofs.Common.{ap, ◌∙◌, List}
use Rattle.std.specs.List.{position_from}
use Rattle.spur_asm.specs.Context.{Placed, is_label}
use Rattle.spur_asm.proofs.LabelTable.{number_within}
use Rattle.spur_asm.proofs.table.Labels.number_of.Goals as goal

pub returns-clause-number : goal.returns-clause-number
returns-clause-number c =
    c.copied.ensures ∙ c.get.ensures.value ∙ c.self.invariant c.args.board c.args.name.now
    ∙ ap (λ (all : List Placed). position_from (is_label c.args.board c.args.name.now) 0 all) c.self.view_is

pub returns-clause-within : goal.returns-clause-within
returns-clause-within c = number_within (is_label c.args.board c.args.name.now) c.args.self.now c.copied.result
    (c.copied.ensures ∙ c.get.ensures.value ∙ c.self.invariant c.args.board c.args.name.now
    ∙ ap (λ (all : List Placed). position_from (is_label c.args.board c.args.name.now) 0 all) c.self.view_is)
