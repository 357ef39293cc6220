use Rattle.spur_pager.proofs.CountFacts.{counts_same, same_swap}
use Rattle.std.proofs.Common.{subst, sym, Ok}
use Rattle.spur_flat.specs.declared.access.FaultKind.{FaultKind}
use Rattle.spur_pager.specs.Served.{Leaves, StaysFor, CountsServing}
use Rattle.spur_pager.specs.View.{View, seen}
use Rattle.spur_pager.proofs.ServiceFacts.{leaves_err, leaves_ok}
use Rattle.spur_pager.proofs.serving.serve.Goals as goal

pub returns-in-Leaving-clause-ok : goal.returns-in-Leaving-clause-ok
returns-in-Leaving-clause-ok g c =
    let w : View = seen g.B.Backing.meaning g.T.HasCache.lens c.args.boards.now c.args.store.now in
    let v : View = seen g.B.Backing.meaning g.T.HasCache.lens c.leaving.new.boards c.leaving.new.store in
    leaves_ok c.args.b w v c.args.kind c.args.at c.leaving.result (subst (λ (k : FaultKind). Leaves c.args.b w k c.args.at c.leaving.result v) (sym c.in-Leaving.is) c.leaving.ensures.serves.leaves)

pub returns-in-Leaving-clause-err : goal.returns-in-Leaving-clause-err
returns-in-Leaving-clause-err g c =
    let w : View = seen g.B.Backing.meaning g.T.HasCache.lens c.args.boards.now c.args.store.now in
    let v : View = seen g.B.Backing.meaning g.T.HasCache.lens c.leaving.new.boards c.leaving.new.store in
    leaves_err c.args.b w v c.args.kind c.args.at c.leaving.result (subst (λ (k : FaultKind). Leaves c.args.b w k c.args.at c.leaving.result v) (sym c.in-Leaving.is) c.leaving.ensures.serves.leaves)

pub returns-in-Missing-clause-ok : goal.returns-in-Missing-clause-ok
returns-in-Missing-clause-ok g c =
    let w : View = seen g.B.Backing.meaning g.T.HasCache.lens c.args.boards.now c.args.store.now in
    let v : View = seen g.B.Backing.meaning g.T.HasCache.lens c.missing.new.boards c.missing.new.store in
    leaves_ok c.args.b w v c.args.kind c.args.at c.missing.result (subst (λ (k : FaultKind). Leaves c.args.b w k c.args.at c.missing.result v) (sym c.in-Missing.is) c.missing.ensures.serves.leaves)

pub returns-in-Missing-clause-err : goal.returns-in-Missing-clause-err
returns-in-Missing-clause-err g c =
    let w : View = seen g.B.Backing.meaning g.T.HasCache.lens c.args.boards.now c.args.store.now in
    let v : View = seen g.B.Backing.meaning g.T.HasCache.lens c.missing.new.boards c.missing.new.store in
    leaves_err c.args.b w v c.args.kind c.args.at c.missing.result (subst (λ (k : FaultKind). Leaves c.args.b w k c.args.at c.missing.result v) (sym c.in-Missing.is) c.missing.ensures.serves.leaves)

pub returns-in-Leaving-clause-unused : goal.returns-in-Leaving-clause-unused
returns-in-Leaving-clause-unused g c =
    let w : View = seen g.B.Backing.meaning g.T.HasCache.lens c.args.boards.now c.args.store.now in
    subst (λ (k : FaultKind). StaysFor w k c.args.store.now.backing c.leaving.new.store.backing) (sym c.in-Leaving.is) c.leaving.ensures.unused

pub returns-in-Reference-clause-counts : goal.returns-in-Reference-clause-counts
returns-in-Reference-clause-counts g c =
    let w : View = seen g.B.Backing.meaning g.T.HasCache.lens c.args.boards.now c.args.store.now in
    let v : View = seen g.B.Backing.meaning g.T.HasCache.lens c.reference.new.boards c.reference.new.store in
    subst (λ (k : FaultKind). CountsServing w k (Ok tt) v) (sym c.in-Reference.is)
    (counts_same w v (same_swap g.B.Backing.meaning g.T.HasCache.lens c.args.boards.now c.reference.new.boards c.args.store.now c.reference.new.store c.reference.ensures.backing))

pub returns-in-Dirty-clause-counts : goal.returns-in-Dirty-clause-counts
returns-in-Dirty-clause-counts g c =
    let w : View = seen g.B.Backing.meaning g.T.HasCache.lens c.args.boards.now c.args.store.now in
    let v : View = seen g.B.Backing.meaning g.T.HasCache.lens c.dirty.new.boards c.dirty.new.store in
    subst (λ (k : FaultKind). CountsServing w k (Ok tt) v) (sym c.in-Dirty.is)
    (counts_same w v (same_swap g.B.Backing.meaning g.T.HasCache.lens c.args.boards.now c.dirty.new.boards c.args.store.now c.dirty.new.store c.dirty.ensures.backing))

pub returns-in-Leaving-clause-counts : goal.returns-in-Leaving-clause-counts
returns-in-Leaving-clause-counts g c =
    let w : View = seen g.B.Backing.meaning g.T.HasCache.lens c.args.boards.now c.args.store.now in
    let v : View = seen g.B.Backing.meaning g.T.HasCache.lens c.leaving.new.boards c.leaving.new.store in
    subst (λ (k : FaultKind). CountsServing w k c.leaving.result v) (sym c.in-Leaving.is) c.leaving.ensures.counts

pub returns-in-Missing-clause-counts : goal.returns-in-Missing-clause-counts
returns-in-Missing-clause-counts g c =
    let w : View = seen g.B.Backing.meaning g.T.HasCache.lens c.args.boards.now c.args.store.now in
    let v : View = seen g.B.Backing.meaning g.T.HasCache.lens c.missing.new.boards c.missing.new.store in
    subst (λ (k : FaultKind). CountsServing w k c.missing.result v) (sym c.in-Missing.is) c.missing.ensures.counts
