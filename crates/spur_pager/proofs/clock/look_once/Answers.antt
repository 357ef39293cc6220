use Rattle.std.proofs.Common.{ℕ, ◌≡◌, ◌<◌, ◌∙◌, Some, ap, refl, true, subst, sym}
use Rattle.std.proofs.lemmas.List.{length-map}
use Rattle.spur_addr.specs.PageEntry.{is_referenced, is_valid}
use Rattle.spur_frames.specs.Frames.{Frames}
use Rattle.spur_walk.specs.Tables.{logical_flat, root_at}
use Rattle.spur_pager.specs.declared.change.Change.TheVariants.{Unreferenced}
use Rattle.spur_pager.specs.Changes.{Changes, MayChange, clock_change, hold_entry}
use Rattle.spur_pager.specs.Served.{hold_of}
use Rattle.spur_addr.specs.Address.{page_address}
use Rattle.spur_pager.specs.View.{View, seen}
use Rattle.spur_pager.proofs.LookFacts.{IsFound, chose_clear, chose_leave, look_clears, look_leaves, look_may, look_root}
use Rattle.spur_pager.proofs.RunFacts.{past_of}
use Rattle.spur_pager.proofs.clock.look_once.Goals as goal

pub tick-change-requires-clause-root : goal.tick-change-requires-clause-root
tick-change-requires-clause-root g c =
    let w : View = seen g.B.Backing.meaning g.T.HasCache.lens c.args.boards.now c.args.store.now in
    let within = subst (λ (n : ℕ). c.args.b < n) (sym (length-map c.args.boards.now g.T.HasCache.lens.lines_of)) c.requires.own in
    let frame : ℕ = c.in-Some.frame in
    let page : ℕ = c.in-Some-holder.page in
    let slot : ℕ = c.in-Some-holder.field-0-1 in
    let found : IsFound w frame page slot = record { looked = sym c.in-Some.ensures.first; taken = c.in-Some.ensures.taken; held = sym c.in-Some-holder.ensures.holder; staying = c.requires.staying } in
    let rest = c.requires.stands.rest in
    let st = c.requires.stands.stands in
    subst (λ (n : ℕ). is_valid (root_at (logical_flat w.caches w.memory) n) ≡ true) (sym c.page_address.ensures) (look_root w c.args.b frame page slot within found rest st)

pub tick-change-requires-clause-may : goal.tick-change-requires-clause-may
tick-change-requires-clause-may g c =
    let w : View = seen g.B.Backing.meaning g.T.HasCache.lens c.args.boards.now c.args.store.now in
    let within = subst (λ (n : ℕ). c.args.b < n) (sym (length-map c.args.boards.now g.T.HasCache.lens.lines_of)) c.requires.own in
    let frame : ℕ = c.in-Some.frame in
    let page : ℕ = c.in-Some-holder.page in
    let slot : ℕ = c.in-Some-holder.field-0-1 in
    let found : IsFound w frame page slot = record { looked = sym c.in-Some.ensures.first; taken = c.in-Some.ensures.taken; held = sym c.in-Some-holder.ensures.holder; staying = c.requires.staying } in
    let rest = c.requires.stands.rest in
    let st = c.requires.stands.stands in
    subst (λ (n : ℕ). MayChange c.args.b n (clock_change (hold_entry (hold_of w) n)) (hold_of w)) (sym c.page_address.ensures) (look_may w c.args.b frame page slot within found rest st)

pub returns-in-Unreferenced-clause-looks : goal.returns-in-Unreferenced-clause-looks
returns-in-Unreferenced-clause-looks g c =
    let w : View = seen g.B.Backing.meaning g.T.HasCache.lens c.args.boards.now c.args.store.now in
    let within = subst (λ (n : ℕ). c.args.b < n) (sym (length-map c.args.boards.now g.T.HasCache.lens.lines_of)) c.requires.own in
    let frame : ℕ = c.in-Some.frame in
    let page : ℕ = c.in-Some-holder.page in
    let slot : ℕ = c.in-Some-holder.field-0-1 in
    let found : IsFound w frame page slot = record { looked = sym c.in-Some.ensures.first; taken = c.in-Some.ensures.taken; held = sym c.in-Some-holder.ensures.holder; staying = c.requires.staying } in
    let rest = c.requires.stands.rest in
    let st = c.requires.stands.stands in
    let v : View = seen g.B.Backing.meaning g.T.HasCache.lens c.tick-change.new.boards
    (record { phys = c.tick-change.new.phys; frames = c.pass.new.self; backing = c.args.store.now.backing; history = c.tick-change.new.history; ahead = c.args.store.now.ahead }) in
    let changes = subst (λ (n : ℕ). Changes c.args.b n (clock_change (hold_entry (hold_of w) n)) (hold_of w) (past_of w) (hold_of v) (past_of v)) c.page_address.ensures c.tick-change.ensures.changes in
    let chosen = sym (c.tick-change.ensures.change ∙ ap (λ (n : ℕ). clock_change (hold_entry (hold_of w) n)) c.page_address.ensures) ∙ c.in-Unreferenced.is in
    look_clears w c.args.b frame page slot within found v rest st (record { pages = refl; slots = refl; ahead = refl }) (chose_clear (is_referenced (hold_entry (hold_of w) (page_address page))) chosen) c.pass.ensures.passed changes

pub returns-in_default-change : goal.returns-in_default-change
returns-in_default-change g c =
    let w : View = seen g.B.Backing.meaning g.T.HasCache.lens c.args.boards.now c.args.store.now in
    let within = subst (λ (n : ℕ). c.args.b < n) (sym (length-map c.args.boards.now g.T.HasCache.lens.lines_of)) c.requires.own in
    let frame : ℕ = c.in-Some.frame in
    let page : ℕ = c.in-Some-holder.page in
    let slot : ℕ = c.in-Some-holder.field-0-1 in
    let found : IsFound w frame page slot = record { looked = sym c.in-Some.ensures.first; taken = c.in-Some.ensures.taken; held = sym c.in-Some-holder.ensures.holder; staying = c.requires.staying } in
    let rest = c.requires.stands.rest in
    let st = c.requires.stands.stands in
    let v : View = seen g.B.Backing.meaning g.T.HasCache.lens c.tick-change.new.boards
    (record { phys = c.tick-change.new.phys; frames = c.set_leaving.new.self; backing = c.args.store.now.backing; history = c.tick-change.new.history; ahead = c.args.store.now.ahead }) in
    let changes = subst (λ (n : ℕ). Changes c.args.b n (clock_change (hold_entry (hold_of w) n)) (hold_of w) (past_of w) (hold_of v) (past_of v)) c.page_address.ensures c.tick-change.ensures.changes in
    let chosen = c.tick-change.ensures.change ∙ ap (λ (n : ℕ). clock_change (hold_entry (hold_of w) n)) c.page_address.ensures in
    let left = chose_leave (is_referenced (hold_entry (hold_of w) (page_address page))) (λ (h : clock_change (hold_entry (hold_of w) (page_address page)) ≡ Unreferenced). c.in_default-change.not-Unreferenced (chosen ∙ h)) in
    let frames = c.set_leaving.ensures.leaving ∙ ap (λ (fs : Frames). record fs { leaving = Some frame }) c.pass.ensures.passed in
    record {
      looks = look_leaves w c.args.b frame page slot within found v rest st (record { pages = refl; slots = refl; ahead = refl }) left frames changes;
      backing = refl;
      lens = c.tick-change.ensures.lens;
    }
