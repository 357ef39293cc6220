use Rattle.std.proofs.Common.{◌<◌, ◌∙◌, ℕ, None, Some, ap, refl, subst, sym}
use Rattle.std.proofs.lemmas.List.{length-map}
use Rattle.spur_cache.specs.Lens.{OnlyLines, caches}
use Rattle.spur_bus.proofs.LensFacts.{only_lines-same, only_lines-then}
use Rattle.spur_pager.specs.View.{View, seen}
use Rattle.spur_core.proofs.WayFacts.{approaches, less_left, room_left, way_more, way_none}
use Rattle.spur_core.proofs.approach.approach.Goals as goal

pub advance-requires-clause-walk : goal.advance-requires-clause-walk
advance-requires-clause-walk g c = c.loop-entry.invariant.way.stepped.walk

pub loop-entry-init : goal.loop-entry-init
loop-entry-init g c =
    let w : View = seen g.B.Backing.meaning g.T.HasCache.lens c.args.boards.now c.args.store.now in
    record {
      own = c.requires.own;
      way = way_none c.args.b c.args.at c.args.need w c.requires.walk;
      lens = only_lines-same g.T.HasCache.lens g.met.T.HasCache.lawful c.args.boards.now;
    }

pub append-requires : goal.append-requires
append-requires g c =
    let lens = g.T.HasCache.lens in
    let w : View = seen g.B.Backing.meaning lens c.args.boards.now c.args.store.now in
    let u : View = seen g.B.Backing.meaning lens c.loop-entry.boards c.loop-entry.store in
    let within = subst (λ (n : ℕ). c.args.b < n) (sym (length-map c.loop-entry.boards lens.lines_of)) c.loop-entry.invariant.own in
    let news = caches lens c.advance.new.boards in
    let less = less_left u.caches news u.memory c.args.b c.args.at c.args.need c.in-Moved.entry c.loop-entry.invariant.way.stepped.walk within c.requires.user (sym c.advance.ensures.answer ∙ c.in-Moved.is) c.advance.ensures.steps.caches in
    room_left c.args.b c.args.at c.args.need w u news c.loop-entry.invariant.way c.requires.room less

pub loop-entry-smaller : goal.loop-entry-smaller
loop-entry-smaller g c =
    let lens = g.T.HasCache.lens in
    let within = subst (λ (n : ℕ). c.args.b < n) (sym (length-map c.loop-entry.boards lens.lines_of)) c.loop-entry.invariant.own in
    less_left (caches lens c.loop-entry.boards) (caches lens c.advance.new.boards) c.loop-entry.store.phys c.args.b c.args.at c.args.need c.in-Moved.entry c.loop-entry.invariant.way.stepped.walk within c.requires.user
    (sym c.advance.ensures.answer ∙ c.in-Moved.is) c.advance.ensures.steps.caches

pub loop-entry-preserved : goal.loop-entry-preserved
loop-entry-preserved g c =
    let lens = g.T.HasCache.lens in
    let w : View = seen g.B.Backing.meaning lens c.args.boards.now c.args.store.now in
    let u : View = seen g.B.Backing.meaning lens c.loop-entry.boards c.loop-entry.store in
    let v : View = record u { caches = caches lens c.advance.new.boards; memory = c.advance.new.phys; history = c.append.new.self.entries; room = c.append.new.self.room } in
    let within = subst (λ (n : ℕ). c.args.b < n) (sym (length-map c.args.boards.now lens.lines_of)) c.requires.own in
    record {
      own = subst (λ (n : ℕ). c.args.b < n) (sym c.advance.ensures.count) c.loop-entry.invariant.own;
      way = way_more c.args.b c.args.at c.args.need w u v c.in-Moved.entry within c.requires.user c.loop-entry.invariant.way c.advance.ensures.steps
          (sym c.advance.ensures.answer ∙ c.in-Moved.is) c.append.ensures.entry c.append.ensures.room (record { frames = refl; pages = refl; slots = refl }) refl refl;
      lens = only_lines-then lens g.met.T.HasCache.lawful c.args.boards.now c.loop-entry.boards c.advance.new.boards c.loop-entry.invariant.lens c.advance.ensures.lens;
    }

pub returns-in-Ready-clause-approaches : goal.returns-in-Ready-clause-approaches
returns-in-Ready-clause-approaches g c =
    let lens = g.T.HasCache.lens in
    let w : View = seen g.B.Backing.meaning lens c.args.boards.now c.args.store.now in
    let u : View = seen g.B.Backing.meaning lens c.loop-entry.boards c.loop-entry.store in
    approaches c.args.b c.args.at c.args.need w u (caches lens c.advance.new.boards) c.advance.new.phys None c.loop-entry.invariant.way (ap (caches lens) (c.in-Ready.ensures.boards_stay tt)) (c.in-Ready.ensures.memory_stays tt)
    (sym c.advance.ensures.answer ∙ c.in-Ready.is)

pub returns-in-Ready-clause-lens : goal.returns-in-Ready-clause-lens
returns-in-Ready-clause-lens g c = subst (λ xs. OnlyLines g.T.HasCache.lens c.args.boards.now xs) (sym (c.in-Ready.ensures.boards_stay tt)) c.loop-entry.invariant.lens

pub returns-in-Fault-clause-approaches : goal.returns-in-Fault-clause-approaches
returns-in-Fault-clause-approaches g c =
    let lens = g.T.HasCache.lens in
    let w : View = seen g.B.Backing.meaning lens c.args.boards.now c.args.store.now in
    let u : View = seen g.B.Backing.meaning lens c.loop-entry.boards c.loop-entry.store in
    approaches c.args.b c.args.at c.args.need w u (caches lens c.advance.new.boards) c.advance.new.phys (Some c.in-Fault.kind) c.loop-entry.invariant.way (ap (caches lens) (c.in-Fault.ensures.boards_stay tt)) (c.in-Fault.ensures.memory_stays tt)
    (sym c.advance.ensures.answer ∙ c.in-Fault.is)

pub returns-in-Fault-clause-lens : goal.returns-in-Fault-clause-lens
returns-in-Fault-clause-lens g c = subst (λ xs. OnlyLines g.T.HasCache.lens c.args.boards.now xs) (sym (c.in-Fault.ensures.boards_stay tt)) c.loop-entry.invariant.lens
