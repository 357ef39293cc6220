use Rattle.std.proofs.Common.{◌<◌, ◌∙◌, ℕ, refl, subst, sym}
use Rattle.spur_pager.specs.View.{View, seen}
use Rattle.spur_bus.proofs.LensFacts.{only_lines-same, only_lines-then}
use Rattle.spur_pager.proofs.TurnFacts.{fewer, turned_all, turning_more, turning_none}
use Rattle.spur_pager.proofs.clock.run_clock.Goals as goal

pub loop-init : goal.loop-init
loop-init g c =
    let w : View = seen g.B.Backing.meaning g.T.HasCache.lens c.args.boards.now c.args.store.now in
    record {
      own = c.requires.own;
      turning = turning_none c.args.b w c.requires.stands c.requires.staying c.frames.ensures.table c.requires.taken c.requires.room;
      backing = refl;
      lens = only_lines-same g.T.HasCache.lens g.met.T.HasCache.lawful c.args.boards.now;
    }

pub loop-smaller : goal.loop-smaller
loop-smaller g c =
    let u : View = seen g.B.Backing.meaning g.T.HasCache.lens c.loop.boards c.loop.store in
    let v : View = seen g.B.Backing.meaning g.T.HasCache.lens c.look_once.new.boards c.look_once.new.store in
    fewer c.args.b u v c.loop.invariant.turning.stands c.loop-test.ensures.looks

pub loop-preserved : goal.loop-preserved
loop-preserved g c =
    let w : View = seen g.B.Backing.meaning g.T.HasCache.lens c.args.boards.now c.args.store.now in
    let u : View = seen g.B.Backing.meaning g.T.HasCache.lens c.loop.boards c.loop.store in
    let v : View = seen g.B.Backing.meaning g.T.HasCache.lens c.look_once.new.boards c.look_once.new.store in
    record {
      own = subst (λ (n : ℕ). c.args.b < n) (sym c.look_once.auto.boards) c.loop.invariant.own;
      turning = turning_more c.args.b w u v c.loop.invariant.turning c.loop-test.ensures.looks;
      backing = c.look_once.ensures.backing ∙ c.loop.invariant.backing;
      lens = only_lines-then g.T.HasCache.lens g.met.T.HasCache.lawful c.args.boards.now c.loop.boards c.look_once.new.boards c.loop.invariant.lens c.look_once.ensures.lens;
    }

pub returns-clause-clocks : goal.returns-clause-clocks
returns-clause-clocks g c =
    let w : View = seen g.B.Backing.meaning g.T.HasCache.lens c.args.boards.now c.args.store.now in
    let u : View = seen g.B.Backing.meaning g.T.HasCache.lens c.loop.boards c.loop.store in
    let v : View = seen g.B.Backing.meaning g.T.HasCache.lens c.look_once.new.boards c.look_once.new.store in
    turned_all c.args.b w u v c.loop.invariant.turning c.loop-test.ensures.looks

pub returns-clause-lens : goal.returns-clause-lens
returns-clause-lens g c =
    only_lines-then g.T.HasCache.lens g.met.T.HasCache.lawful c.args.boards.now c.loop.boards c.look_once.new.boards c.loop.invariant.lens c.look_once.ensures.lens
