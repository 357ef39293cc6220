use Rattle.std.proofs.Common.{◌∙◌, List, ℕ, ap, length}
use Rattle.spur_flat.specs.declared.flat.Flat.{Flat}
use Rattle.spur_addr.specs.Pages.{page_at}
use Rattle.spur_flat.proofs.PagerFacts.{frame_within, length-with_page, page_long, slot_within, valid-with_swap}
use Rattle.spur_flat.proofs.flat.Flat.save.Goals as goal

pub copy_part-requires-clause-there : goal.copy_part-requires-clause-there
copy_part-requires-clause-there c = slot_within c.args.self.now c.args.at c.args.slot c.requires.valid c.requires.small c.requires.declared c.requires.slot

pub copy_part-requires-clause-here : goal.copy_part-requires-clause-here
copy_part-requires-clause-here c =
    frame_within c.args.self.now c.args.at c.args.entry c.number.result c.requires.valid c.requires.small c.requires.declared c.requires.entry c.requires.resident c.number.ensures.value

pub returns-then-dirty-clause-valid : goal.returns-then-dirty-clause-valid
returns-then-dirty-clause-valid c =
    let F : Flat = c.args.self.now in
    let n : ℕ = c.number.result in
    valid-with_swap F c.copy_part.new.self c.requires.valid
    (ap (λ (ws : List ℕ). length ws) c.copy_part.ensures
    ∙ length-with_page F.swap (page_at F.words n) c.args.slot
    (slot_within F c.args.at c.args.slot c.requires.valid c.requires.small c.requires.declared c.requires.slot)
    (page_long F.words n (frame_within F c.args.at c.args.entry n c.requires.valid c.requires.small c.requires.declared c.requires.entry c.requires.resident c.number.ensures.value)))
