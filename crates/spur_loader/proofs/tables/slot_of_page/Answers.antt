-- The search tells the place of the page's root entry, or that there is none.
use Rattle.std.proofs.Common.{ℕ, ◌/◌, sym, ap, subst, ◌∙◌}
use Rattle.std.specs.Prelude.{slice_index}
use Rattle.spur_loader.specs.Parts.{slot_in_entry, slot_under}
use Rattle.spur_loader.proofs.RootFacts.{IsPlace, search_places}
use Rattle.spur_loader.proofs.tables.slot_of_page.Goals as goal

pub returns-in_default : goal.returns-in_default
returns-in_default c =
    let none = subst (IsPlace c.args.roots.now (c.args.page / 1024)) c.in_default.is (search_places _ _ _ c.requires.ascending c.binary_search.ensures.position) in
    sym (ap (slot_under c.args.tables.now c.args.page) none)

pub returns : goal.returns
returns c =
    let place = subst (IsPlace c.args.roots.now (c.args.page / 1024)) c.in-Ok.is (search_places _ _ _ c.requires.ascending c.binary_search.ensures.position) in
    c.slot_in.ensures
    ∙ ap (λ (k : ℕ). slot_in_entry (slice_index c.args.tables.now k)) c.place_in_table.ensures
    ∙ sym (ap (slot_under c.args.tables.now c.args.page) place)
