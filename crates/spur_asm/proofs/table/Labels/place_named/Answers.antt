use Rattle.std.proofs.Common.{ap, sym, ◌∙◌, List, Some}
use Rattle.spur_asm.specs.Context.{Placed, place_named}
use Rattle.spur_asm.specs.declared.label.Label as labels
use Rattle.spur_asm.proofs.LabelTable.{none_named, place_at}
use Rattle.spur_asm.proofs.table.Labels.place_named.Goals as goal

pub returns-in_err-number : goal.returns-in_err-number
returns-in_err-number c = c.from_residual.ensures ∙ sym (none_named c.args.board c.args.name.now c.args.self.now (sym c.number_of.ensures.number ∙ c.in_err-number.was))

pub returns : goal.returns
returns c =
    let view = c.self.view_is in
    ap (λ (l : labels.Label). Some l.place) c.index.ensures
    ∙ sym (place_at c.args.board c.args.name.now c.self.inside.all.items c.in_ok-number.number c.index.result.now (rw view (sym c.number_of.ensures.number ∙ c.in_ok-number.was)))
    ∙ ap (λ (all : List Placed). place_named all c.args.board c.args.name.now) view
