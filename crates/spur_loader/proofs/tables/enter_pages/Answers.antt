-- Each page's entry is written at its place, and no other one; what stands there is zero where the page is new.
use Rattle.std.proofs.Common.{◌<◌, ◌*◌, ◌^◌, ◌+◌, ℕ, Some, sym, subst, length, arith, ap, ◌∙◌}
use Rattle.std.specs.Prelude.{slice_set}
use Rattle.spur_loader.specs.declared.fault.LoadFault.TheVariants.{PageTwice}
use Rattle.std.proofs.lemmas.Option.{slice_get-get_or}
use Rattle.spur_loader.proofs.RootFacts.{root_needed}
use Rattle.spur_loader.proofs.PageTableFacts.{EntriesSoFar, entries_more, entries_again, place_fits, place_within}
use Rattle.spur_loader.proofs.tables.enter_pages.Goals as goal

pub entry_place-place-requires-clause-needed : goal.entry_place-place-requires-clause-needed
entry_place-place-requires-clause-needed c =
    root_needed c.args.pages.now c.args.roots.now c.loop-slot.slot _ c.requires.needed (slice_get-get_or c.args.pages.now c.loop-slot.slot _ c.loop-slot-test.true)

pub offset_bounds-words-place : goal.offset_bounds-words-place
offset_bounds-words-place c =
    let small : c.entry_place-place.result * 4 < 2 ^ 64 =
    place_fits c.args.roots.now _ c.entry_place-place.result (length c.args.pages.now) c.entry_place-place.ensures c.requires.few_roots c.requires.few in
    omega arith

pub bounds-words-place : goal.bounds-words-place
bounds-words-place c =
    place_within c.args.roots.now _ c.entry_place-place.result (length c.loop-slot.words) c.entry_place-place.ensures c.loop-slot.invariant.size

pub offset_bounds-words-place-in-loop-slot : goal.offset_bounds-words-place-in-loop-slot
offset_bounds-words-place-in-loop-slot c =
    let small : c.entry_place-place.result * 4 < 2 ^ 64 =
    place_fits c.args.roots.now _ c.entry_place-place.result (length c.args.pages.now) c.entry_place-place.ensures c.requires.few_roots c.requires.few in
    omega arith

pub bounds-words-place-in-loop-slot : goal.bounds-words-place-in-loop-slot
bounds-words-place-in-loop-slot c =
    place_within c.args.roots.now _ c.entry_place-place.result (length c.loop-slot.words) c.entry_place-place.ensures c.loop-slot.invariant.size

pub loop-slot-preserved : goal.loop-slot-preserved
loop-slot-preserved c =
    let at = slice_get-get_or c.args.pages.now c.loop-slot.slot _ c.loop-slot-test.true in
    subst (λ (v : ℕ). EntriesSoFar c.args.roots.now c.args.pages.now (slice_set c.loop-slot.words c.entry_place-place.result v) (c.loop-slot.slot + 1))
    (sym c.first_entry.ensures)
    (entries_more c.args.roots.now c.args.pages.now c.loop-slot.words c.loop-slot.slot c.entry_place-place.result _ c.requires.needed c.loop-slot.invariant at
    c.entry_place-place.ensures c.if-words-place-ne0.false)

pub returns-then-words-place-ne0-clause-again : goal.returns-then-words-place-ne0-clause-again
returns-then-words-place-ne0-clause-again c =
    let at = slice_get-get_or c.args.pages.now c.loop-slot.slot _ c.loop-slot-test.true in
    entries_again c.args.roots.now c.args.pages.now c.loop-slot.words c.loop-slot.slot c.entry_place-place.result _ c.loop-slot.invariant at
    c.entry_place-place.ensures c.if-words-place-ne0.true ∙ ap (λ (a : ℕ). Some (PageTwice a)) (sym c.first_byte.ensures)
