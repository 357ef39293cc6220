use Rattle.std.proofs.Common.{map, refl}
use Rattle.spur_pager.specs.View.{View, seen}
use Rattle.spur_pager.proofs.LookFacts.{room_used}
use Rattle.spur_pager.proofs.RunFacts.{as_written, mark_framed, mark_may, runs, written}
use Rattle.spur_pager.proofs.mark.mark.Goals as goal

pub change_entry-requires-clause-may : goal.change_entry-requires-clause-may
change_entry-requires-clause-may g c =
    let w : View = seen g.B.Backing.meaning g.T.HasCache.lens c.args.boards.now c.args.store.now in
    mark_may w c.args.b c.args.page c.args.change (as_written w c.args.b c.args.page c.args.change c.requires.may).is c.requires.stands.stands.present c.requires.may.user c.requires.may.valid

pub returns-clause-runs : goal.returns-clause-runs
returns-clause-runs g c =
    let w : View = seen g.B.Backing.meaning g.T.HasCache.lens c.args.boards.now c.args.store.now in
    let v : View = seen g.B.Backing.meaning g.T.HasCache.lens c.change_entry.new.boards
    (record { phys = c.change_entry.new.phys; frames = c.args.store.now.frames; backing = c.args.store.now.backing; history = c.change_entry.new.history; ahead = c.args.store.now.ahead }) in
    runs w v c.args.b c.args.page c.args.change (as_written w c.args.b c.args.page c.args.change c.requires.may) (record { pages = refl; slots = refl; ahead = refl })
    (mark_framed w v c.args.b c.args.page c.args.change c.requires.may c.frames.ensures.table refl) c.change_entry.ensures.changes

pub returns-clause-marked : goal.returns-clause-marked
returns-clause-marked g c =
    let w : View = seen g.B.Backing.meaning g.T.HasCache.lens c.args.boards.now c.args.store.now in
    let v : View = seen g.B.Backing.meaning g.T.HasCache.lens c.change_entry.new.boards
    (record { phys = c.change_entry.new.phys; frames = c.args.store.now.frames; backing = c.args.store.now.backing; history = c.change_entry.new.history; ahead = c.args.store.now.ahead }) in
    written w v c.args.b c.args.page c.args.change (as_written w c.args.b c.args.page c.args.change c.requires.may) (record { pages = refl; slots = refl; ahead = refl })
    (mark_framed w v c.args.b c.args.page c.args.change c.requires.may c.frames.ensures.table refl) c.change_entry.ensures.changes

pub returns-clause-used : goal.returns-clause-used
returns-clause-used g c =
    room_used c.args.b c.args.page (record { caches = map g.T.HasCache.lens.lines_of c.args.boards.now; memory = c.args.store.now.phys })
    (record { caches = map g.T.HasCache.lens.lines_of c.change_entry.new.boards; memory = c.change_entry.new.phys }) c.args.store.now.history c.change_entry.new.history c.args.change c.change_entry.ensures.changes
