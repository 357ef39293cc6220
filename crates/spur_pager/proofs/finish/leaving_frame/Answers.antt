use Rattle.std.proofs.Common.{◌∙◌, sym}
use Rattle.spur_pager.specs.View.{View, seen}
use Rattle.spur_pager.proofs.FinishFacts.{full_looks, is_leaving_now, none_is, was_leaving}
use Rattle.spur_bus.proofs.LensFacts.{only_lines-same}
use Rattle.spur_pager.proofs.finish.leaving_frame.Goals as goal

pub returns-in-Some-clause-leaving : goal.returns-in-Some-clause-leaving
returns-in-Some-clause-leaving g c =
    let w : View = seen g.B.Backing.meaning g.T.HasCache.lens c.args.boards.now c.args.store.now in
    was_leaving c.args.b w c.in-Some.frame (sym c.leaving.ensures.leaving ∙ c.in-Some.is) c.in-Some.ensures.taken

pub returns-in-Some-clause-lens : goal.returns-in-Some-clause-lens
returns-in-Some-clause-lens g c =
    only_lines-same g.T.HasCache.lens g.met.T.HasCache.lawful c.args.boards.now

pub run_clock-requires-clause-taken : goal.run_clock-requires-clause-taken
run_clock-requires-clause-taken g c = full_looks c.args.store.now.frames c.frames.ensures.table c.requires.full

pub returns-clause-leaving : goal.returns-clause-leaving
returns-clause-leaving g c =
    let w : View = seen g.B.Backing.meaning g.T.HasCache.lens c.args.boards.now c.args.store.now in
    let v : View = seen g.B.Backing.meaning g.T.HasCache.lens c.run_clock.new.boards c.run_clock.new.store in
    is_leaving_now c.args.b w v c.in-Some-leaving.frame (sym c.leaving.ensures.leaving ∙ none_is c.leaving.result (λ n h. c.in_default.not-Some n h)) c.run_clock.ensures.clocks (sym c.leaving-2.ensures.leaving ∙ c.in-Some-leaving.is) c.in-Some-leaving.ensures.taken
