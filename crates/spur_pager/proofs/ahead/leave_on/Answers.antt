use Rattle.std.proofs.Common.{◌<◌, ℕ, ap, subst, sym}
use Rattle.std.proofs.lemmas.List.{length-map}
use Rattle.spur_pager.specs.View.{View, seen}
use Rattle.spur_pager.proofs.AheadStepFacts.{counts_all, counts_as, leaves_by, leaves_part, unwritten_all, writes_part}
use Rattle.spur_pager.specs.Ahead.{writes_on}
use Rattle.spur_pager.proofs.CountFacts.{same_swap}
use Rattle.spur_pager.proofs.FinishFacts.{IsOfLeaving, leaving_is, may_go_out}
use Rattle.spur_pager.proofs.EntryFacts.{leaving_taken}
use Rattle.spur_bus.proofs.LensFacts.{only_lines-then}
use Rattle.spur_pager.proofs.ahead.leave_on.Goals as goal

pub flush_first-requires-clause-leaving : goal.flush_first-requires-clause-leaving
flush_first-requires-clause-leaving g c =
    let w : View = seen g.B.Backing.meaning g.T.HasCache.lens c.args.boards.now c.args.store.now in
    let of_leaving : IsOfLeaving w c.args.frame c.in-Some.page c.in-Some.slot = record { taken = leaving_taken w.frames c.args.frame c.frames.ensures.table c.requires.leaving; held = sym c.in-Some.ensures.holder; leaving = c.requires.leaving } in
    leaving_is c.requires.stands.rest w c.args.frame c.in-Some.page c.in-Some.slot c.requires.stands.stands of_leaving

pub returns-then-not-flush_first-clause-leaves : goal.returns-then-not-flush_first-clause-leaves
returns-then-not-flush_first-clause-leaves g c =
    let w : View = seen g.B.Backing.meaning g.T.HasCache.lens c.args.boards.now c.args.store.now in
    let v : View = seen g.B.Backing.meaning g.T.HasCache.lens c.flush_first.new.boards c.flush_first.new.store in
    let of_leaving : IsOfLeaving w c.args.frame c.in-Some.page c.in-Some.slot = record { taken = leaving_taken w.frames c.args.frame c.frames.ensures.table c.requires.leaving; held = sym c.in-Some.ensures.holder; leaving = c.requires.leaving } in
    leaves_part c.args.b c.args.frame c.in-Some.page c.in-Some.slot w v of_leaving c.if-not-flush_first.ensures.flushes c.flush_first.ensures.frames

pub put_out-requires-clause-stands : goal.put_out-requires-clause-stands
put_out-requires-clause-stands g c = record { rest = c.requires.stands.rest; stands = (c.if-not-flush_first.ensures.flushes.flushes.runs.carries c.requires.stands.rest c.requires.stands.stands).stands }

pub put_out-requires-clause-may : goal.put_out-requires-clause-may
put_out-requires-clause-may g c =
    let w : View = seen g.B.Backing.meaning g.T.HasCache.lens c.args.boards.now c.args.store.now in
    let u : View = seen g.B.Backing.meaning g.T.HasCache.lens c.flush_first.new.boards c.flush_first.new.store in
    let of_leaving : IsOfLeaving w c.args.frame c.in-Some.page c.in-Some.slot = record { taken = leaving_taken w.frames c.args.frame c.frames.ensures.table c.requires.leaving; held = sym c.in-Some.ensures.holder; leaving = c.requires.leaving } in
    let within = subst (λ (n : ℕ). c.args.b < n) (sym (length-map c.args.boards.now g.T.HasCache.lens.lines_of)) c.requires.own in
    may_go_out c.requires.stands.rest w u c.args.b c.args.frame c.in-Some.page c.in-Some.slot c.requires.stands.stands within of_leaving c.if-not-flush_first.ensures.flushes.flushes c.flush_first.ensures.frames

pub returns-clause-leaves : goal.returns-clause-leaves
returns-clause-leaves g c =
    let w : View = seen g.B.Backing.meaning g.T.HasCache.lens c.args.boards.now c.args.store.now in
    let u : View = seen g.B.Backing.meaning g.T.HasCache.lens c.flush_first.new.boards c.flush_first.new.store in
    let v : View = seen g.B.Backing.meaning g.T.HasCache.lens c.put_out.new.boards c.put_out.new.store in
    let of_leaving : IsOfLeaving w c.args.frame c.in-Some.page c.in-Some.slot = record { taken = leaving_taken w.frames c.args.frame c.frames.ensures.table c.requires.leaving; held = sym c.in-Some.ensures.holder; leaving = c.requires.leaving } in
    leaves_by c.requires.stands.rest c.args.b c.args.frame c.in-Some.page c.in-Some.slot w u v c.put_out.result c.is_ok.result c.requires.stands.stands of_leaving c.if-not-flush_first.ensures.flushes
    c.flush_first.ensures.frames (ap (λ x. (g.B.Backing.meaning x).faults) c.flush_first.ensures.backing) c.put_out.ensures.out c.put_out.ensures.failed c.is_ok.ensures.value

pub returns-clause-lens : goal.returns-clause-lens
returns-clause-lens g c =
    only_lines-then g.T.HasCache.lens g.met.T.HasCache.lawful c.args.boards.now c.flush_first.new.boards c.put_out.new.boards c.flush_first.ensures.lens c.put_out.ensures.lens

pub returns-then-not-flush_first-clause-counts : goal.returns-then-not-flush_first-clause-counts
returns-then-not-flush_first-clause-counts g c =
    let w : View = seen g.B.Backing.meaning g.T.HasCache.lens c.args.boards.now c.args.store.now in
    let v : View = seen g.B.Backing.meaning g.T.HasCache.lens c.flush_first.new.boards c.flush_first.new.store in
    let of_leaving : IsOfLeaving w c.args.frame c.in-Some.page c.in-Some.slot = record { taken = leaving_taken w.frames c.args.frame c.frames.ensures.table c.requires.leaving; held = sym c.in-Some.ensures.holder; leaving = c.requires.leaving } in
    counts_as w v (writes_on w c.args.frame) (same_swap g.B.Backing.meaning g.T.HasCache.lens c.args.boards.now c.flush_first.new.boards c.args.store.now c.flush_first.new.store c.flush_first.ensures.backing)
    (writes_part c.args.b c.args.frame c.in-Some.page c.in-Some.slot w v of_leaving c.if-not-flush_first.ensures.flushes)

pub returns-clause-counts : goal.returns-clause-counts
returns-clause-counts g c =
    let w : View = seen g.B.Backing.meaning g.T.HasCache.lens c.args.boards.now c.args.store.now in
    let u : View = seen g.B.Backing.meaning g.T.HasCache.lens c.flush_first.new.boards c.flush_first.new.store in
    let v : View = seen g.B.Backing.meaning g.T.HasCache.lens c.put_out.new.boards c.put_out.new.store in
    let of_leaving : IsOfLeaving w c.args.frame c.in-Some.page c.in-Some.slot = record { taken = leaving_taken w.frames c.args.frame c.frames.ensures.table c.requires.leaving; held = sym c.in-Some.ensures.holder; leaving = c.requires.leaving } in
    counts_all c.args.b c.args.frame c.in-Some.page c.in-Some.slot w u v of_leaving c.if-not-flush_first.ensures.flushes (same_swap g.B.Backing.meaning g.T.HasCache.lens c.args.boards.now c.flush_first.new.boards c.args.store.now c.flush_first.new.store c.flush_first.ensures.backing) c.put_out.ensures.counts

pub returns-clause-unwritten : goal.returns-clause-unwritten
returns-clause-unwritten g c =
    let w : View = seen g.B.Backing.meaning g.T.HasCache.lens c.args.boards.now c.args.store.now in
    let u : View = seen g.B.Backing.meaning g.T.HasCache.lens c.flush_first.new.boards c.flush_first.new.store in
    let of_leaving : IsOfLeaving w c.args.frame c.in-Some.page c.in-Some.slot = record { taken = leaving_taken w.frames c.args.frame c.frames.ensures.table c.requires.leaving; held = sym c.in-Some.ensures.holder; leaving = c.requires.leaving } in
    unwritten_all c.args.b c.args.frame c.in-Some.page c.in-Some.slot w u c.args.store.now.backing c.flush_first.new.store.backing c.put_out.new.store.backing of_leaving c.if-not-flush_first.ensures.flushes c.flush_first.ensures.backing c.put_out.ensures.unwritten
