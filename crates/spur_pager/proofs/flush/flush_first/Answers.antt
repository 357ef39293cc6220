use Rattle.std.proofs.Common.{ℕ, ◌+◌, Some, ◌≡◌, ◌<◌, ◌≤◌, ◌∙◌, arith, length, refl, subst, sym}
use Rattle.std.proofs.lemmas.List.{length-map}
use Rattle.spur_pager.specs.Flushes.{FlushesSome}
use Rattle.spur_pager.specs.View.{View, seen}
use Rattle.spur_pager.proofs.FlushingFacts.{MayFlush, may_still}
use Rattle.spur_pager.proofs.AheadFacts.{all_flushed, on_cache, on_none, part_flushed}
use Rattle.spur_bus.proofs.LensFacts.{only_lines-same, only_lines-then}
use Rattle.spur_pager.proofs.flush.flush_first.Goals as goal

pub loop-holder-init : goal.loop-holder-init
loop-holder-init g c =
    let w : View = seen g.B.Backing.meaning g.T.HasCache.lens c.args.boards.now c.args.store.now in
    record {
      own = c.requires.own;
      flushing = on_none c.args.b c.args.page c.args.most w;
      before = λ (i : ℕ) (low : i < 0). absurd (omega arith);
      frames = refl;
      backing = refl;
      lens = only_lines-same g.T.HasCache.lens g.met.T.HasCache.lawful c.args.boards.now;
    }

pub flush_some-requires-clause-stands : goal.flush_some-requires-clause-stands
flush_some-requires-clause-stands g c =
    let w : View = seen g.B.Backing.meaning g.T.HasCache.lens c.args.boards.now c.args.store.now in
    let u : View = seen g.B.Backing.meaning g.T.HasCache.lens c.loop-holder.boards c.loop-holder.store in
    let may : MayFlush c.args.page u = may_still c.args.b c.args.page w u (record { stands = c.requires.stands; leaving = c.requires.leaving; room = c.requires.room }) c.loop-holder.invariant.flushing.flushing in
    may.stands

pub flush_some-requires-clause-leaving : goal.flush_some-requires-clause-leaving
flush_some-requires-clause-leaving g c =
    let w : View = seen g.B.Backing.meaning g.T.HasCache.lens c.args.boards.now c.args.store.now in
    let u : View = seen g.B.Backing.meaning g.T.HasCache.lens c.loop-holder.boards c.loop-holder.store in
    let may : MayFlush c.args.page u = may_still c.args.b c.args.page w u (record { stands = c.requires.stands; leaving = c.requires.leaving; room = c.requires.room }) c.loop-holder.invariant.flushing.flushing in
    may.leaving

pub flush_some-requires-clause-room : goal.flush_some-requires-clause-room
flush_some-requires-clause-room g c =
    let w : View = seen g.B.Backing.meaning g.T.HasCache.lens c.args.boards.now c.args.store.now in
    let u : View = seen g.B.Backing.meaning g.T.HasCache.lens c.loop-holder.boards c.loop-holder.store in
    let may : MayFlush c.args.page u = may_still c.args.b c.args.page w u (record { stands = c.requires.stands; leaving = c.requires.leaving; room = c.requires.room }) c.loop-holder.invariant.flushing.flushing in
    may.room

pub loop-holder-preserved : goal.loop-holder-preserved
loop-holder-preserved g c =
    let w : View = seen g.B.Backing.meaning g.T.HasCache.lens c.args.boards.now c.args.store.now in
    let u : View = seen g.B.Backing.meaning g.T.HasCache.lens c.loop-holder.boards c.loop-holder.store in
    let v : View = seen g.B.Backing.meaning g.T.HasCache.lens c.flush_some.new.boards c.flush_some.new.store in
    let some : FlushesSome c.args.b c.args.page c.loop-holder.left (c.loop-holder.holder + 1) u v (Some c.in-Some.spare) =
    subst (FlushesSome c.args.b c.args.page c.loop-holder.left (c.loop-holder.holder + 1) u v) c.in-Some.is c.flush_some.ensures.flushes in
    record {
      own = subst (λ (n : ℕ). c.args.b < n) (sym c.flush_some.auto.boards) c.loop-holder.invariant.own;
      flushing = on_cache c.args.b c.args.page c.args.most c.loop-holder.left c.in-Some.spare (c.loop-holder.holder + 1) w u v c.loop-holder.invariant.flushing some;
      before = some.stops.none;
      frames = c.flush_some.ensures.frames ∙ c.loop-holder.invariant.frames;
      backing = c.flush_some.ensures.backing ∙ c.loop-holder.invariant.backing;
      lens = only_lines-then g.T.HasCache.lens g.met.T.HasCache.lawful c.args.boards.now c.loop-holder.boards c.flush_some.new.boards c.loop-holder.invariant.lens c.flush_some.ensures.lens;
    }

pub returns-clause-flushes : goal.returns-clause-flushes
returns-clause-flushes g c =
    let w : View = seen g.B.Backing.meaning g.T.HasCache.lens c.args.boards.now c.args.store.now in
    let u : View = seen g.B.Backing.meaning g.T.HasCache.lens c.loop-holder.boards c.loop-holder.store in
    let few : length w.caches ≤ 12 = c.requires.stands.stands.walk.agree.few_caches in
    let count : length w.caches ≡ length c.args.boards.now = length-map c.args.boards.now g.T.HasCache.lens.lines_of in
    let now : length u.caches ≡ length c.loop-holder.boards = length-map c.loop-holder.boards g.T.HasCache.lens.lines_of in
    let kept = c.loop-holder.auto.boards in
    let past = c.loop-holder-test.false in
    all_flushed c.args.b c.args.page c.args.most c.loop-holder.left w u c.loop-holder.invariant.flushing (λ (i : ℕ) (low : i < length u.caches). c.loop-holder.invariant.before i (omega arith))

pub returns-in-None-clause-flushes : goal.returns-in-None-clause-flushes
returns-in-None-clause-flushes g c =
    let w : View = seen g.B.Backing.meaning g.T.HasCache.lens c.args.boards.now c.args.store.now in
    let u : View = seen g.B.Backing.meaning g.T.HasCache.lens c.loop-holder.boards c.loop-holder.store in
    let v : View = seen g.B.Backing.meaning g.T.HasCache.lens c.flush_some.new.boards c.flush_some.new.store in
    part_flushed c.args.b c.args.page c.args.most c.loop-holder.left (c.loop-holder.holder + 1) w u v c.loop-holder.invariant.flushing
    (subst (FlushesSome c.args.b c.args.page c.loop-holder.left (c.loop-holder.holder + 1) u v) c.in-None.is c.flush_some.ensures.flushes)

pub returns-in-None-clause-lens : goal.returns-in-None-clause-lens
returns-in-None-clause-lens g c =
    only_lines-then g.T.HasCache.lens g.met.T.HasCache.lawful c.args.boards.now c.loop-holder.boards c.flush_some.new.boards c.loop-holder.invariant.lens c.flush_some.ensures.lens
