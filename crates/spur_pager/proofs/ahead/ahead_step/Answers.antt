use Rattle.std.proofs.Common.{◌∙◌, Bool, false, sym, refl, subst}
use Rattle.spur_frames.specs.Frames.{least_free}
use Rattle.spur_pager.specs.Ahead.{ahead_service, writes_ahead}
use Rattle.spur_pager.specs.View.{View, seen}
use Rattle.spur_pager.proofs.CountFacts.{same_swap}
use Rattle.spur_pager.specs.Counts.{Counts}
use Rattle.spur_pager.proofs.AheadStepFacts.{counts_as, writes_is, writes_none, writes_not, full_by, runs_carried, steps_clock, steps_free, steps_not, steps_on}
use Rattle.spur_pager.proofs.FinishFacts.{full_looks, none_is}
use Rattle.spur_bus.proofs.LensFacts.{only_lines-same}
use Rattle.spur_pager.proofs.ahead.ahead_step.Goals as goal

pub returns-then-not-goes_ahead-clause-does : goal.returns-then-not-goes_ahead-clause-does
returns-then-not-goes_ahead-clause-does g c =
    let w : View = seen g.B.Backing.meaning g.T.HasCache.lens c.args.boards.now c.args.store.now in
    (steps_not c.args.b w (sym c.goes_ahead.ensures ∙ c.if-not-goes_ahead.true)).does

pub returns-then-not-goes_ahead-clause-lens : goal.returns-then-not-goes_ahead-clause-lens
returns-then-not-goes_ahead-clause-lens g c =
    only_lines-same g.T.HasCache.lens g.met.T.HasCache.lawful c.args.boards.now

pub returns-in-Some-clause-does : goal.returns-in-Some-clause-does
returns-in-Some-clause-does g c =
    let w : View = seen g.B.Backing.meaning g.T.HasCache.lens c.args.boards.now c.args.store.now in
    let v : View = seen g.B.Backing.meaning g.T.HasCache.lens c.leave_on.new.boards c.leave_on.new.store in
    (steps_on c.args.b c.in-Some.frame w v c.leave_on.result (sym c.goes_ahead.ensures ∙ c.if-not-goes_ahead.false) (sym c.leaving.ensures.leaving ∙ c.in-Some.is) c.leave_on.ensures.leaves).does

pub returns-in-Some-clause-carried : goal.returns-in-Some-clause-carried
returns-in-Some-clause-carried g c =
    let w : View = seen g.B.Backing.meaning g.T.HasCache.lens c.args.boards.now c.args.store.now in
    let v : View = seen g.B.Backing.meaning g.T.HasCache.lens c.leave_on.new.boards c.leave_on.new.store in
    runs_carried c.args.b (ahead_service c.args.b w c.leave_on.result).acts w v
    (steps_on c.args.b c.in-Some.frame w v c.leave_on.result (sym c.goes_ahead.ensures ∙ c.if-not-goes_ahead.false) (sym c.leaving.ensures.leaving ∙ c.in-Some.is) c.leave_on.ensures.leaves).runs

pub run_clock-requires-clause-taken : goal.run_clock-requires-clause-taken
run_clock-requires-clause-taken g c = full_looks c.args.store.now.frames c.frames.ensures.table (full_by (least_free c.args.store.now.frames) (sym c.is_full.ensures.full ∙ c.if-is_full.true))

pub returns-then-is_full-clause-does : goal.returns-then-is_full-clause-does
returns-then-is_full-clause-does g c =
    let w : View = seen g.B.Backing.meaning g.T.HasCache.lens c.args.boards.now c.args.store.now in
    let v : View = seen g.B.Backing.meaning g.T.HasCache.lens c.run_clock.new.boards c.run_clock.new.store in
    let none = sym c.leaving.ensures.leaving ∙ none_is c.leaving.result (λ n h. c.in_default.not-Some n h) in
    (steps_clock c.args.b w v c.requires.stands (sym c.goes_ahead.ensures ∙ c.if-not-goes_ahead.false) none (full_by (least_free c.args.store.now.frames) (sym c.is_full.ensures.full ∙ c.if-is_full.true)) c.run_clock.ensures.clocks).does

pub returns-else-is_full-clause-does : goal.returns-else-is_full-clause-does
returns-else-is_full-clause-does g c =
    let w : View = seen g.B.Backing.meaning g.T.HasCache.lens c.args.boards.now c.args.store.now in
    let none = sym c.leaving.ensures.leaving ∙ none_is c.leaving.result (λ n h. c.in_default.not-Some n h) in
    (steps_free c.args.b w none (sym c.is_full.ensures.full ∙ c.if-is_full.false)).does

pub returns-else-is_full-clause-lens : goal.returns-else-is_full-clause-lens
returns-else-is_full-clause-lens g c =
    only_lines-same g.T.HasCache.lens g.met.T.HasCache.lawful c.args.boards.now

pub returns-in-Some-clause-less : goal.returns-in-Some-clause-less
returns-in-Some-clause-less g c =
    let w : View = seen g.B.Backing.meaning g.T.HasCache.lens c.args.boards.now c.args.store.now in
    let v : View = seen g.B.Backing.meaning g.T.HasCache.lens c.leave_on.new.boards c.leave_on.new.store in
    (steps_on c.args.b c.in-Some.frame w v c.leave_on.result (sym c.goes_ahead.ensures ∙ c.if-not-goes_ahead.false) (sym c.leaving.ensures.leaving ∙ c.in-Some.is) c.leave_on.ensures.leaves).less

pub returns-then-is_full-clause-less : goal.returns-then-is_full-clause-less
returns-then-is_full-clause-less g c =
    let w : View = seen g.B.Backing.meaning g.T.HasCache.lens c.args.boards.now c.args.store.now in
    let v : View = seen g.B.Backing.meaning g.T.HasCache.lens c.run_clock.new.boards c.run_clock.new.store in
    let none = sym c.leaving.ensures.leaving ∙ none_is c.leaving.result (λ n h. c.in_default.not-Some n h) in
    (steps_clock c.args.b w v c.requires.stands (sym c.goes_ahead.ensures ∙ c.if-not-goes_ahead.false) none (full_by (least_free c.args.store.now.frames) (sym c.is_full.ensures.full ∙ c.if-is_full.true)) c.run_clock.ensures.clocks).less

pub returns-then-not-goes_ahead-clause-counts : goal.returns-then-not-goes_ahead-clause-counts
returns-then-not-goes_ahead-clause-counts g c =
    let w : View = seen g.B.Backing.meaning g.T.HasCache.lens c.args.boards.now c.args.store.now in
    counts_as w w (writes_ahead w) (same_swap g.B.Backing.meaning g.T.HasCache.lens c.args.boards.now c.args.boards.now c.args.store.now c.args.store.now refl)
    (writes_not w (sym c.goes_ahead.ensures ∙ c.if-not-goes_ahead.true))

pub returns-in-Some-clause-counts : goal.returns-in-Some-clause-counts
returns-in-Some-clause-counts g c =
    let w : View = seen g.B.Backing.meaning g.T.HasCache.lens c.args.boards.now c.args.store.now in
    let v : View = seen g.B.Backing.meaning g.T.HasCache.lens c.leave_on.new.boards c.leave_on.new.store in
    subst (λ (t : Bool). Counts false t w v) (sym (writes_is w c.in-Some.frame (sym c.goes_ahead.ensures ∙ c.if-not-goes_ahead.false) (sym c.leaving.ensures.leaving ∙ c.in-Some.is))) c.leave_on.ensures.counts

pub returns-in-Some-clause-unwritten : goal.returns-in-Some-clause-unwritten
returns-in-Some-clause-unwritten g c not_written =
    let w : View = seen g.B.Backing.meaning g.T.HasCache.lens c.args.boards.now c.args.store.now in
    c.leave_on.ensures.unwritten (sym (writes_is w c.in-Some.frame (sym c.goes_ahead.ensures ∙ c.if-not-goes_ahead.false) (sym c.leaving.ensures.leaving ∙ c.in-Some.is)) ∙ not_written)

pub returns-then-is_full-clause-counts : goal.returns-then-is_full-clause-counts
returns-then-is_full-clause-counts g c =
    let w : View = seen g.B.Backing.meaning g.T.HasCache.lens c.args.boards.now c.args.store.now in
    let v : View = seen g.B.Backing.meaning g.T.HasCache.lens c.run_clock.new.boards c.run_clock.new.store in
    let none = sym c.leaving.ensures.leaving ∙ none_is c.leaving.result (λ n h. c.in_default.not-Some n h) in
    counts_as w v (writes_ahead w) (same_swap g.B.Backing.meaning g.T.HasCache.lens c.args.boards.now c.run_clock.new.boards c.args.store.now c.run_clock.new.store c.run_clock.ensures.backing) (writes_none w none)

pub returns-else-is_full-clause-counts : goal.returns-else-is_full-clause-counts
returns-else-is_full-clause-counts g c =
    let w : View = seen g.B.Backing.meaning g.T.HasCache.lens c.args.boards.now c.args.store.now in
    let none = sym c.leaving.ensures.leaving ∙ none_is c.leaving.result (λ n h. c.in_default.not-Some n h) in
    counts_as w w (writes_ahead w) (same_swap g.B.Backing.meaning g.T.HasCache.lens c.args.boards.now c.args.boards.now c.args.store.now c.args.store.now refl) (writes_none w none)
