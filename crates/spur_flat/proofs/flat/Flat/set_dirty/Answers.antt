use Rattle.std.proofs.Common.{◌≡◌, ◌∙◌, true, ap, sym}
use Rattle.spur_flat.specs.declared.flat.Flat.{Flat}
use Rattle.spur_flat.specs.Pager.{may_set_dirty, word_of}
use Rattle.std.proofs.lemmas.Bool.{and_parts}
use Rattle.spur_flat.proofs.PagerFacts.{bit_is_set, dirty_flag}
use Rattle.spur_flat.proofs.flat.Flat.set_dirty.Goals as goal

pub returns-clause-valid : goal.returns-clause-valid
returns-clause-valid c =
    let F : Flat = c.args.self.now in
    let had : c.page_entry-entry.result ≡ word_of F c.args.at = c.page_entry-entry.ensures in
    let passes : may_set_dirty (word_of F c.args.at) ≡ true = ap may_set_dirty (sym had) ∙ sym c.may_mark_dirty.ensures ∙ c.in_ok-judge.ensures.passes in
    bit_is_set F c.set_entry.new.self c.args.at 2 _ _ true c.requires c.judge.ensures.small c.in_ok-judge.ensures.declared (and_parts _ _ (and_parts _ _ passes).0).0 dirty_flag
    c.set_entry.ensures c.with_dirty.ensures had
