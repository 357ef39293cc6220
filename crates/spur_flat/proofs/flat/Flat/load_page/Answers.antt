use Rattle.std.proofs.Common.{◌≡◌, ◌∙◌, List, ℕ, ap, subst, sym}
use Rattle.spur_flat.specs.declared.flat.Flat.{Flat}
use Rattle.spur_flat.specs.Pager.{swap_slot_of}
use Rattle.spur_addr.specs.Pages.{page_at, with_page}
use Rattle.spur_flat.specs.Validity.{IsValidFlat}
use Rattle.spur_flat.proofs.PagerFacts.{valid-loaded}
use Rattle.spur_flat.proofs.flat.Flat.load_page.Goals as goal

pub returns-clause-valid : goal.returns-clause-valid
returns-clause-valid c =
    let F : Flat = c.args.self.now in
    let words : c.copy_part.new.self ≡ with_page F.words c.args.frame (page_at F.swap (swap_slot_of F c.args.at)) =
    c.copy_part.ensures ∙ ap (λ (n : ℕ). with_page F.words c.args.frame (page_at F.swap n)) c.slot.ensures.value in
    subst (λ (ws : List ℕ). IsValidFlat (record F { words = ws })) (sym words)
    (valid-loaded F c.args.at c.args.frame c.requires.valid c.slot.ensures.small c.requires.declared c.requires.free)
