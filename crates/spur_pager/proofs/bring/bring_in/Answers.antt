use Rattle.std.proofs.Common.{ℕ, ◌≡◌, List, subst, sym, true, ap, refl}
use Rattle.spur_addr.specs.PageEntry.{is_valid}
use Rattle.spur_addr.specs.Pages.{with_page}
use Rattle.spur_walk.specs.Present.{MayWalk}
use Rattle.spur_walk.specs.Tables.{logical_flat, root_at}
use Rattle.spur_pager.specs.declared.change.Change.TheVariants.{In}
use Rattle.spur_pager.specs.Acts.{loaded_hold}
use Rattle.spur_pager.specs.Changes.{Changes, MayChange}
use Rattle.spur_pager.specs.Served.{hold_of}
use Rattle.spur_pager.specs.View.{View, seen}
use Rattle.spur_pager.proofs.CountFacts.{counts_read}
use Rattle.spur_pager.proofs.ComeFacts.{changes_may, comes, frame_room, root, slot_small, walk}
use Rattle.spur_bus.proofs.LensFacts.{only_lines-same}
use Rattle.spur_pager.proofs.RunFacts.{past_of}
use Rattle.spur_pager.proofs.bring.bring_in.Goals as goal

pub load_page-requires-clause-slot : goal.load_page-requires-clause-slot
load_page-requires-clause-slot g c =
    let w : View = seen g.B.Backing.meaning g.T.HasCache.lens c.args.boards.now c.args.store.now in
    let rest = c.requires.stands.rest in
    let st = c.requires.stands.stands in
    slot_small w c.args.b c.args.frame c.args.page c.args.slot c.requires.may rest st

pub load_page-requires-clause-frame : goal.load_page-requires-clause-frame
load_page-requires-clause-frame g c =
    let w : View = seen g.B.Backing.meaning g.T.HasCache.lens c.args.boards.now c.args.store.now in
    let rest = c.requires.stands.rest in
    let st = c.requires.stands.stands in
    frame_room w c.args.b c.args.frame c.args.page c.args.slot c.requires.may rest st

pub returns-in_err-load_page-clause-lens : goal.returns-in_err-load_page-clause-lens
returns-in_err-load_page-clause-lens g c =
    only_lines-same g.T.HasCache.lens g.met.T.HasCache.lawful c.args.boards.now

pub change_entry-requires-clause-walk : goal.change_entry-requires-clause-walk
change_entry-requires-clause-walk g c =
    let w : View = seen g.B.Backing.meaning g.T.HasCache.lens c.args.boards.now c.args.store.now in
    let rest = c.requires.stands.rest in
    let st = c.requires.stands.stands in
    let l = c.in_ok-load_page.ensures.loaded in
    subst (λ (ws : List ℕ). MayWalk w.caches ws) (sym l.memory) (walk w c.args.b c.args.frame c.args.page c.args.slot c.requires.may l.words l.long rest st)

pub change_entry-requires-clause-root : goal.change_entry-requires-clause-root
change_entry-requires-clause-root g c =
    let w : View = seen g.B.Backing.meaning g.T.HasCache.lens c.args.boards.now c.args.store.now in
    let rest = c.requires.stands.rest in
    let st = c.requires.stands.stands in
    let l = c.in_ok-load_page.ensures.loaded in
    subst (λ (ws : List ℕ). is_valid (root_at (logical_flat w.caches ws) c.page_address.result) ≡ true) (sym l.memory)
    (subst (λ (n : ℕ). is_valid (root_at (logical_flat w.caches (with_page w.memory c.args.frame l.words)) n) ≡ true) (sym c.page_address.ensures)
    (root w c.args.b c.args.frame c.args.page c.args.slot c.requires.may l.words l.long rest st))

pub change_entry-requires-clause-may : goal.change_entry-requires-clause-may
change_entry-requires-clause-may g c =
    let w : View = seen g.B.Backing.meaning g.T.HasCache.lens c.args.boards.now c.args.store.now in
    let rest = c.requires.stands.rest in
    let st = c.requires.stands.stands in
    let l = c.in_ok-load_page.ensures.loaded in
    subst (λ (ws : List ℕ). MayChange c.args.b c.page_address.result (In c.args.frame) (record { caches = w.caches; memory = ws })) (sym l.memory)
    (subst (λ (n : ℕ). MayChange c.args.b n (In c.args.frame) (loaded_hold c.args.frame l.words (hold_of w))) (sym c.page_address.ensures)
    (changes_may w c.args.b c.args.frame c.args.page c.args.slot c.requires.may l.words l.long rest st))

pub returns-clause-brought : goal.returns-clause-brought
returns-clause-brought g c =
    let w : View = seen g.B.Backing.meaning g.T.HasCache.lens c.args.boards.now c.args.store.now in
    let rest = c.requires.stands.rest in
    let st = c.requires.stands.stands in
    let l = c.in_ok-load_page.ensures.loaded in
    let v : View = seen g.B.Backing.meaning g.T.HasCache.lens c.change_entry.new.boards
    (record { phys = c.change_entry.new.phys; frames = c.take.new.self; backing = c.load_page.new.backing; history = c.change_entry.new.history; ahead = c.args.store.now.ahead }) in
    let changes = subst (λ (n : ℕ). Changes c.args.b n (In c.args.frame) (loaded_hold c.args.frame l.words (hold_of w)) (past_of w) (hold_of v) (past_of v)) c.page_address.ensures
    (subst (λ (ws : List ℕ). Changes c.args.b c.page_address.result (In c.args.frame) (record { caches = w.caches; memory = ws }) (past_of w) (hold_of v) (past_of v)) l.memory c.change_entry.ensures.changes) in
    comes w c.args.b c.args.frame c.args.page c.args.slot c.requires.may l.words l.long v rest st c.take.ensures.taken c.frames.ensures.table (ap (λ s. s.pages) c.load_page.ensures.stays) (ap (λ s. s.slots) c.load_page.ensures.stays) refl l.told changes

pub returns-in_err-load_page-clause-counts : goal.returns-in_err-load_page-clause-counts
returns-in_err-load_page-clause-counts g c =
    counts_read g.B.Backing.meaning g.T.HasCache.lens c.args.boards.now c.args.boards.now c.args.store.now
    (record c.args.store.now { phys = c.load_page.new.phys; backing = c.load_page.new.backing }) c.load_page.ensures.stays c.load_page.ensures.later

pub returns-clause-counts : goal.returns-clause-counts
returns-clause-counts g c =
    counts_read g.B.Backing.meaning g.T.HasCache.lens c.args.boards.now c.change_entry.new.boards c.args.store.now (record { phys = c.change_entry.new.phys; frames = c.take.new.self; backing = c.load_page.new.backing; history = c.change_entry.new.history; ahead = c.args.store.now.ahead }) c.load_page.ensures.stays c.load_page.ensures.later
