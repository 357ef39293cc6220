use Rattle.std.proofs.Common.{◌≡◌, ◌∙◌, ◌<◌, ◌≤◌, List, ℕ, ap, arith, length}
use Rattle.spur_flat.specs.Pager.{position_in, swap_slot_of}
use Rattle.spur_flat.proofs.PagerFacts.{is_at_position}
use Rattle.spur_flat.proofs.flat.Flat.slot.Goals as goal

pub overflow_cast-result : goal.overflow_cast-result
overflow_cast-result c =
    let within : swap_slot_of c.args.self.now c.args.at < length c.args.self.now.pages = (is_at_position _ _ c.requires.declared).within in
    let few : length c.args.self.now.pages ≤ 2048 = c.requires.valid.few_pages in
    let slot : c.position.result ≡ swap_slot_of c.args.self.now c.args.at =
    c.position.ensures ∙ ap (λ (ps : List ℕ). position_in ps c.page.result) c.as_slice.ensures ∙ ap (position_in c.args.self.now.pages) c.page.ensures.value in
    omega arith

pub returns-clause-within : goal.returns-clause-within
returns-clause-within c = (is_at_position _ _ c.requires.declared).within
