use Rattle.spur_pager.proofs.CountFacts.{same_swap}
use Rattle.std.proofs.Common.{◌<◌, ℕ, ap, subst, sym}
use Rattle.std.proofs.lemmas.List.{length-map}
use Rattle.spur_pager.specs.Moves.{FailsToGoOut, GoesOut}
use Rattle.spur_pager.specs.View.{View, seen}
use Rattle.spur_pager.proofs.FinishFacts.{IsOfLeaving, clean_still, finished, leaving_is, may_go_out, not_finished, on_err, on_ok, counts_finish}
use Rattle.spur_pager.proofs.EntryFacts.{leaving_taken}
use Rattle.spur_bus.proofs.LensFacts.{only_lines-then}
use Rattle.spur_pager.proofs.finish.finish.Goals as goal

pub flush_page-requires-clause-leaving : goal.flush_page-requires-clause-leaving
flush_page-requires-clause-leaving g c =
    let w : View = seen g.B.Backing.meaning g.T.HasCache.lens c.args.boards.now c.args.store.now in
    let of_leaving : IsOfLeaving w c.args.frame c.in-Some.page c.in-Some.slot = record { taken = leaving_taken w.frames c.args.frame c.frames.ensures.table c.requires.leaving; held = sym c.in-Some.ensures.holder; leaving = c.requires.leaving } in
    leaving_is c.requires.stands.rest w c.args.frame c.in-Some.page c.in-Some.slot c.requires.stands.stands of_leaving

pub put_out-requires-clause-stands : goal.put_out-requires-clause-stands
put_out-requires-clause-stands g c = record { rest = c.requires.stands.rest; stands = (c.flush_page.ensures.flushes.runs.carries c.requires.stands.rest c.requires.stands.stands).stands }

pub put_out-requires-clause-may : goal.put_out-requires-clause-may
put_out-requires-clause-may g c =
    let w : View = seen g.B.Backing.meaning g.T.HasCache.lens c.args.boards.now c.args.store.now in
    let u : View = seen g.B.Backing.meaning g.T.HasCache.lens c.flush_page.new.boards c.flush_page.new.store in
    let of_leaving : IsOfLeaving w c.args.frame c.in-Some.page c.in-Some.slot = record { taken = leaving_taken w.frames c.args.frame c.frames.ensures.table c.requires.leaving; held = sym c.in-Some.ensures.holder; leaving = c.requires.leaving } in
    let within = subst (λ (n : ℕ). c.args.b < n) (sym (length-map c.args.boards.now g.T.HasCache.lens.lines_of)) c.requires.own in
    may_go_out c.requires.stands.rest w u c.args.b c.args.frame c.in-Some.page c.in-Some.slot c.requires.stands.stands within of_leaving c.flush_page.ensures.flushes c.flush_page.ensures.frames

pub returns-clause-finishes : goal.returns-clause-finishes
returns-clause-finishes g c =
    let w : View = seen g.B.Backing.meaning g.T.HasCache.lens c.args.boards.now c.args.store.now in
    let u : View = seen g.B.Backing.meaning g.T.HasCache.lens c.flush_page.new.boards c.flush_page.new.store in
    let v : View = seen g.B.Backing.meaning g.T.HasCache.lens c.put_out.new.boards c.put_out.new.store in
    let of_leaving : IsOfLeaving w c.args.frame c.in-Some.page c.in-Some.slot = record { taken = leaving_taken w.frames c.args.frame c.frames.ensures.table c.requires.leaving; held = sym c.in-Some.ensures.holder; leaving = c.requires.leaving } in
    on_ok c.put_out.result
    (λ (out : GoesOut c.args.b c.args.frame c.in-Some.page c.in-Some.slot u v).
    finished c.requires.stands.rest w u v c.args.b c.args.frame c.in-Some.page c.in-Some.slot c.requires.stands.stands of_leaving c.flush_page.ensures.flushes c.flush_page.ensures.frames out)
    c.put_out.ensures.out

pub returns-clause-failed : goal.returns-clause-failed
returns-clause-failed g c =
    let w : View = seen g.B.Backing.meaning g.T.HasCache.lens c.args.boards.now c.args.store.now in
    let u : View = seen g.B.Backing.meaning g.T.HasCache.lens c.flush_page.new.boards c.flush_page.new.store in
    let v : View = seen g.B.Backing.meaning g.T.HasCache.lens c.put_out.new.boards c.put_out.new.store in
    let of_leaving : IsOfLeaving w c.args.frame c.in-Some.page c.in-Some.slot = record { taken = leaving_taken w.frames c.args.frame c.frames.ensures.table c.requires.leaving; held = sym c.in-Some.ensures.holder; leaving = c.requires.leaving } in
    on_err c.put_out.result
    (λ (out : FailsToGoOut c.in-Some.page u v).
    not_finished w u v c.args.b c.args.frame c.in-Some.page c.in-Some.slot of_leaving c.flush_page.ensures.flushes c.flush_page.ensures.frames (ap (λ x. (g.B.Backing.meaning x).faults) c.flush_page.ensures.backing) out)
    c.put_out.ensures.failed

pub returns-clause-lens : goal.returns-clause-lens
returns-clause-lens g c =
    only_lines-then g.T.HasCache.lens g.met.T.HasCache.lawful c.args.boards.now c.flush_page.new.boards c.put_out.new.boards c.flush_page.ensures.lens c.put_out.ensures.lens

pub returns-clause-unwritten : goal.returns-clause-unwritten
returns-clause-unwritten g c =
    let w : View = seen g.B.Backing.meaning g.T.HasCache.lens c.args.boards.now c.args.store.now in
    let u : View = seen g.B.Backing.meaning g.T.HasCache.lens c.flush_page.new.boards c.flush_page.new.store in
    let of_leaving : IsOfLeaving w c.args.frame c.in-Some.page c.in-Some.slot = record { taken = leaving_taken w.frames c.args.frame c.frames.ensures.table c.requires.leaving; held = sym c.in-Some.ensures.holder; leaving = c.requires.leaving } in
    clean_still w u c.args.b c.args.frame c.in-Some.page c.in-Some.slot c.args.store.now.backing c.flush_page.new.store.backing c.put_out.new.store.backing of_leaving c.flush_page.ensures.flushes c.flush_page.ensures.backing c.put_out.ensures.unwritten

pub returns-clause-counts : goal.returns-clause-counts
returns-clause-counts g c =
    let w : View = seen g.B.Backing.meaning g.T.HasCache.lens c.args.boards.now c.args.store.now in
    let u : View = seen g.B.Backing.meaning g.T.HasCache.lens c.flush_page.new.boards c.flush_page.new.store in
    let v : View = seen g.B.Backing.meaning g.T.HasCache.lens c.put_out.new.boards c.put_out.new.store in
    let of_leaving : IsOfLeaving w c.args.frame c.in-Some.page c.in-Some.slot = record { taken = leaving_taken w.frames c.args.frame c.frames.ensures.table c.requires.leaving; held = sym c.in-Some.ensures.holder; leaving = c.requires.leaving } in
    counts_finish w u v c.args.b c.args.frame c.in-Some.page c.in-Some.slot of_leaving c.flush_page.ensures.flushes
    (same_swap g.B.Backing.meaning g.T.HasCache.lens c.args.boards.now c.flush_page.new.boards c.args.store.now c.flush_page.new.store c.flush_page.ensures.backing) c.put_out.ensures.counts
