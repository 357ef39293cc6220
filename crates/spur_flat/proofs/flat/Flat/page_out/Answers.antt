use Rattle.std.proofs.Common.{◌≡◌, ◌∙◌, ℕ, true, ap, subst, sym}
use Rattle.std.proofs.lemmas.Bool.{and_parts}
use Rattle.spur_addr.specs.PageEntry.{protection_of, swapped_of}
use Rattle.spur_addr.specs.declared.page_entry.Protection.{Protection}
use Rattle.spur_flat.specs.declared.flat.Flat.{Flat}
use Rattle.spur_flat.specs.Pager.{gone_out, may_go_out, saved, swap_slot_of, with_entry, word_of}
use Rattle.spur_flat.specs.Validity.{IsValidFlat}
use Rattle.spur_flat.proofs.PagerFacts.{valid-gone_out}
use Rattle.spur_flat.proofs.flat.Flat.page_out.Goals as goal

pub returns-clause-valid : goal.returns-clause-valid
returns-clause-valid c =
    let F : Flat = c.args.self.now in
    let at : ℕ = c.args.at in
    let had : c.page_entry-entry.result ≡ word_of F at = c.page_entry-entry.ensures in
    let passes : may_go_out (word_of F at) ≡ true = ap may_go_out (sym had) ∙ sym c.may_page_out.ensures ∙ c.in_ok-judge.ensures.passes in
    let entry : c.swapped.result ≡ swapped_of (swap_slot_of F at) (protection_of (word_of F at)) =
    c.swapped.ensures ∙ ap (λ (n : ℕ). swapped_of n c.protection.result) c.slot-slot.ensures.value
    ∙ ap (λ (p : Protection). swapped_of (swap_slot_of F at) p) (c.protection.ensures ∙ ap protection_of had) in
    let is : c.set_entry.new.self ≡ gone_out F at (word_of F at) =
    c.set_entry.ensures ∙ ap (λ (G : Flat). with_entry G at c.swapped.result) (c.save.ensures.change ∙ ap (saved F at) had)
    ∙ ap (with_entry (saved F at (word_of F at)) at) entry in
    subst IsValidFlat (sym is) (valid-gone_out F at c.requires c.judge.ensures.small c.in_ok-judge.ensures.declared (and_parts _ _ passes).0)
