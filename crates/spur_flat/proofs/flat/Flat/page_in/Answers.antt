use Rattle.std.proofs.Common.{◌≡◌, ◌∙◌, ℕ, true, ap, subst, sym}
use Rattle.spur_addr.specs.PageEntry.{protection_of, resident_of}
use Rattle.spur_flat.specs.declared.flat.Flat.{Flat}
use Rattle.spur_flat.specs.Pager.{come_in, is_free_frame, page_loaded, with_entry, word_of}
use Rattle.spur_flat.specs.Validity.{IsValidFlat}
use Rattle.spur_flat.proofs.PagerFacts.{valid-come_in}
use Rattle.spur_flat.proofs.flat.Flat.page_in.Goals as goal

pub returns-clause-valid : goal.returns-clause-valid
returns-clause-valid c =
    let F : Flat = c.args.self.now in
    let at : ℕ = c.args.at in
    let frame : ℕ = c.args.frame in
    let had : c.page_entry-entry.result ≡ word_of F at = c.page_entry-entry.ensures in
    let free : is_free_frame F frame ≡ true = sym c.is_free.ensures ∙ c.in_ok-held.ensures.passes in
    let entry : c.brought_in.result ≡ resident_of frame (protection_of (word_of F at)) =
    c.brought_in.ensures ∙ ap (λ (e : ℕ). resident_of frame (protection_of e)) had in
    let is : c.set_entry.new.self ≡ come_in F at (word_of F at) frame =
    c.set_entry.ensures ∙ ap (λ (G : Flat). with_entry G at c.brought_in.result) c.load_page.ensures.change
    ∙ ap (with_entry (page_loaded F at frame) at) entry in
    subst IsValidFlat (sym is) (valid-come_in F at frame c.requires c.judge.ensures.small c.in_ok-judge.ensures.declared free)
