-- The parts put together, and the faults in their order.
use Rattle.std.proofs.Common.{◌≡◌, ◌+◌, ◌<◌, ◌≤◌, ◌∙◌, sym, ap, subst, length, map, ℕ, List, inr, rules, false}
use Rattle.std.specs.List.{All}
use Rattle.spur_flat.specs.Validity.{IsValidFlat}
use Rattle.spur_object.specs.declared.unit.PageText.{PageText}
use Rattle.spur_object.specs.declared.unit.BoardText.{BoardText}
use Rattle.spur_loader.specs.Opening.{IsNothingResident}
use Rattle.spur_loader.specs.Faults.{names_255}
use Rattle.spur_loader.specs.Parts.{AreRoots}
use Rattle.spur_loader.proofs.FaultFacts.{few_frames_pass, too_many_frames}
use Rattle.spur_loader.proofs.RootFacts.{roots_within}
use Rattle.spur_loader.proofs.ValidFacts.{flat_valid, flat_absent}
use Rattle.spur_loader.proofs.ReadingFacts.{opening_is}
use Rattle.spur_loader.proofs.loading.load.Goals as goal

pub root_table-requires-clause-within : goal.root_table-requires-clause-within
root_table-requires-clause-within c =
    subst (λ (rs : List ℕ). All (λ r. r < 65536) rs) (sym c.deref.ensures.value)
    (roots_within c.args.unit.now.pages c.in_ok-roots.roots.items c.requires.unit.pages
    (subst (λ (ps : List PageText). AreRoots ps c.in_ok-roots.roots.items) c.as_slice-pages.ensures c.in_ok-roots.ensures.needed))

pub returns-then-wanted-gt-MAX_FRAMES-clause-refused : goal.returns-then-wanted-gt-MAX_FRAMES-clause-refused
returns-then-wanted-gt-MAX_FRAMES-clause-refused c =
    let segment : names_255 c.args.unit.now ≡ false = search rules in
    let count : 64 + c.len.result + c.args.options.now.frames ≡ 64 + length c.in_ok-roots.roots.items + c.args.options.now.frames = search rules in
    let many : 4096 < 64 + c.len.result + c.args.options.now.frames = search rules in
    inr (too_many_frames c.args.unit.now c.args.options.now c.as_slice-pages.result.now c.as_slice.result.now c.in_ok-roots.roots.items
    (64 + c.len.result + c.args.options.now.frames) c.as_slice-pages.ensures c.as_slice.ensures c.requires.unit.pages c.in_ok-roots.ensures.needed segment
    c.in_ok-enter_pages.ensures.once c.in_ok-swap.ensures.inside count many)

pub returns-clause-accepted : goal.returns-clause-accepted
returns-clause-accepted c =
    let segment : names_255 c.args.unit.now ≡ false = search rules in
    let count : 64 + c.len.result + c.args.options.now.frames ≡ 64 + length c.in_ok-roots.roots.items + c.args.options.now.frames = search rules in
    let few : 64 + c.len.result + c.args.options.now.frames ≤ 4096 = search rules in
    few_frames_pass c.args.unit.now c.args.options.now c.as_slice-pages.result.now c.as_slice.result.now c.in_ok-roots.roots.items
    (64 + c.len.result + c.args.options.now.frames) c.as_slice-pages.ensures c.as_slice.ensures c.requires.unit.pages c.in_ok-roots.ensures.needed segment
    c.in_ok-enter_pages.ensures.once c.in_ok-swap.ensures.inside count few

pub returns-clause-opening : goal.returns-clause-opening
returns-clause-opening c = opening_is c.args.unit.now c.args.options.now c.in_ok-flat.flat c.from_vec.result c.from_vec-2.result c.in_ok-flat.ensures
    (c.from_vec.ensures ∙ c.in_ok-segs.ensures ∙ ap (λ (bs : List BoardText). map (λ board. board.segs) bs) c.as_slice-boards.ensures)
    (c.from_vec-2.ensures ∙ c.in_ok-code.ensures ∙ ap (λ (bs : List BoardText). map (λ board. board.code) bs) c.as_slice-boards.ensures)

pub returns-clause-valid : goal.returns-clause-valid
returns-clause-valid c = subst IsValidFlat (sym c.in_ok-flat.ensures) (flat_valid c.args.unit.now c.args.options.now c.requires.unit (returns-clause-accepted c))

pub returns-clause-absent : goal.returns-clause-absent
returns-clause-absent c = subst IsNothingResident (sym c.in_ok-flat.ensures) (flat_absent c.args.unit.now c.args.options.now c.requires.unit)
