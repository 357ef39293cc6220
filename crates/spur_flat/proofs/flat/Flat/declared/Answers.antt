use Rattle.std.proofs.Common.{◌∙◌, sym, ap, Bool, ◌||◌}
use Rattle.spur_addr.specs.PageEntry.{is_on_swap}
use Rattle.spur_flat.proofs.DeclaredFacts.{declared_by_entry}
use Rattle.spur_flat.proofs.flat.Flat.declared.Goals as goal

pub returns-then-valid-clause-value : goal.returns-then-valid-clause-value
returns-then-valid-clause-value c =
    c.if-valid.true ∙ sym (declared_by_entry c.args.self.now c.args.at c.args.entry c.requires.valid c.number-number.ensures.small c.requires.entry ∙ ap (λ (b : Bool). b || is_on_swap c.args.entry) (sym c.valid.ensures ∙ c.if-valid.true))

pub returns-else-valid-clause-value : goal.returns-else-valid-clause-value
returns-else-valid-clause-value c =
    c.on_swap.ensures ∙ sym (declared_by_entry c.args.self.now c.args.at c.args.entry c.requires.valid c.number-number.ensures.small c.requires.entry ∙ ap (λ (b : Bool). b || is_on_swap c.args.entry) (sym c.valid.ensures ∙ c.if-valid.false))
