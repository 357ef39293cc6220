use Rattle.std.proofs.Common.{◌≡◌, ◌∙◌, true, false, ap, sym}
use Rattle.spur_flat.specs.declared.flat.Flat.{Flat}
use Rattle.spur_flat.specs.Pager.{may_clear_referenced, word_of}
use Rattle.std.proofs.lemmas.Bool.{and_parts}
use Rattle.spur_flat.proofs.PagerFacts.{bit_is_set, referenced_flag}
use Rattle.spur_flat.proofs.flat.Flat.clear_referenced.Goals as goal

pub returns-clause-valid : goal.returns-clause-valid
returns-clause-valid c =
    let F : Flat = c.args.self.now in
    let had : c.page_entry-entry.result ≡ word_of F c.args.at = c.page_entry-entry.ensures in
    let passes : may_clear_referenced (word_of F c.args.at) ≡ true = ap may_clear_referenced (sym had) ∙ sym c.may_unmark_referenced.ensures ∙ c.in_ok-judge.ensures.passes in
    bit_is_set F c.set_entry.new.self c.args.at 1 _ _ false c.requires c.judge.ensures.small c.in_ok-judge.ensures.declared (and_parts _ _ (and_parts _ _ passes).0).0 referenced_flag
    c.set_entry.ensures c.with_referenced.ensures had
