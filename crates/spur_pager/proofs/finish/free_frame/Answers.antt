use Rattle.spur_pager.proofs.CountFacts.{same_swap}
use Rattle.std.proofs.Common.{◌∙◌, ap, sym, refl}
use Rattle.spur_pager.specs.View.{View, seen}
use Rattle.spur_pager.proofs.FinishFacts.{err_so, freed, none_is, not_freed, room_to_finish, was_free, counts_none, counts_freeing}
use Rattle.spur_bus.proofs.LensFacts.{only_lines-same, only_lines-then}
use Rattle.spur_pager.proofs.finish.free_frame.Goals as goal

pub returns-in-Some-clause-free : goal.returns-in-Some-clause-free
returns-in-Some-clause-free g c =
    let w : View = seen g.B.Backing.meaning g.T.HasCache.lens c.args.boards.now c.args.store.now in
    was_free c.args.b w c.in-Some.frame (sym c.free_one.ensures.least ∙ c.in-Some.is) c.in-Some.ensures.free

pub returns-in-Some-clause-lens : goal.returns-in-Some-clause-lens
returns-in-Some-clause-lens g c =
    only_lines-same g.T.HasCache.lens g.met.T.HasCache.lawful c.args.boards.now

pub finish-requires-clause-stands : goal.finish-requires-clause-stands
finish-requires-clause-stands g c = record { rest = c.requires.stands.rest; stands = (c.leaving_frame-leaving.ensures.leaving.runs.carries c.requires.stands.rest c.requires.stands.stands).stands }

pub finish-requires-clause-room : goal.finish-requires-clause-room
finish-requires-clause-room g c =
    let w : View = seen g.B.Backing.meaning g.T.HasCache.lens c.args.boards.now c.args.store.now in
    let u : View = seen g.B.Backing.meaning g.T.HasCache.lens c.leaving_frame-leaving.new.boards c.leaving_frame-leaving.new.store in
    let full = sym c.free_one.ensures.least ∙ none_is c.free_one.result (λ n h. c.in_default.not-Some n h) in
    room_to_finish c.args.b w u c.leaving_frame-leaving.result c.requires.stands full c.leaving_frame-leaving.ensures.leaving c.requires.room

pub returns-in_err-finish-clause-failed : goal.returns-in_err-finish-clause-failed
returns-in_err-finish-clause-failed g c =
    let w : View = seen g.B.Backing.meaning g.T.HasCache.lens c.args.boards.now c.args.store.now in
    let u : View = seen g.B.Backing.meaning g.T.HasCache.lens c.leaving_frame-leaving.new.boards c.leaving_frame-leaving.new.store in
    let v : View = seen g.B.Backing.meaning g.T.HasCache.lens c.finish.new.boards c.finish.new.store in
    let full = sym c.free_one.ensures.least ∙ none_is c.free_one.result (λ n h. c.in_default.not-Some n h) in
    err_so c.from_residual.result
    (not_freed c.args.b w u v c.leaving_frame-leaving.result c.requires.stands full c.leaving_frame-leaving.ensures.leaving (ap (λ x. (g.B.Backing.meaning x).faults) c.leaving_frame-leaving.ensures.backing) c.in_err-finish.ensures.failed)

pub returns-in_err-finish-clause-lens : goal.returns-in_err-finish-clause-lens
returns-in_err-finish-clause-lens g c =
    only_lines-then g.T.HasCache.lens g.met.T.HasCache.lawful c.args.boards.now c.leaving_frame-leaving.new.boards c.finish.new.boards c.leaving_frame-leaving.ensures.lens c.finish.ensures.lens

pub returns-clause-free : goal.returns-clause-free
returns-clause-free g c =
    let w : View = seen g.B.Backing.meaning g.T.HasCache.lens c.args.boards.now c.args.store.now in
    let u : View = seen g.B.Backing.meaning g.T.HasCache.lens c.leaving_frame-leaving.new.boards c.leaving_frame-leaving.new.store in
    let v : View = seen g.B.Backing.meaning g.T.HasCache.lens c.finish.new.boards c.finish.new.store in
    let full = sym c.free_one.ensures.least ∙ none_is c.free_one.result (λ n h. c.in_default.not-Some n h) in
    freed c.args.b w u v c.leaving_frame-leaving.result c.requires.stands full c.leaving_frame-leaving.ensures.leaving c.in_ok-finish.ensures.finishes

pub returns-clause-lens : goal.returns-clause-lens
returns-clause-lens g c =
    only_lines-then g.T.HasCache.lens g.met.T.HasCache.lawful c.args.boards.now c.leaving_frame-leaving.new.boards c.finish.new.boards c.leaving_frame-leaving.ensures.lens c.finish.ensures.lens

pub returns-in-Some-clause-counts : goal.returns-in-Some-clause-counts
returns-in-Some-clause-counts g c =
    let w : View = seen g.B.Backing.meaning g.T.HasCache.lens c.args.boards.now c.args.store.now in
    counts_none w w c.in-Some.frame (sym c.free_one.ensures.least ∙ c.in-Some.is)
    (same_swap g.B.Backing.meaning g.T.HasCache.lens c.args.boards.now c.args.boards.now c.args.store.now c.args.store.now refl)

pub returns-in_err-finish-clause-counts : goal.returns-in_err-finish-clause-counts
returns-in_err-finish-clause-counts g c =
    let w : View = seen g.B.Backing.meaning g.T.HasCache.lens c.args.boards.now c.args.store.now in
    let u : View = seen g.B.Backing.meaning g.T.HasCache.lens c.leaving_frame-leaving.new.boards c.leaving_frame-leaving.new.store in
    let v : View = seen g.B.Backing.meaning g.T.HasCache.lens c.finish.new.boards c.finish.new.store in
    let full = sym c.free_one.ensures.least ∙ none_is c.free_one.result (λ n h. c.in_default.not-Some n h) in
    counts_freeing c.args.b w u v c.leaving_frame-leaving.result c.requires.stands full c.leaving_frame-leaving.ensures.leaving
    (same_swap g.B.Backing.meaning g.T.HasCache.lens c.args.boards.now c.leaving_frame-leaving.new.boards c.args.store.now c.leaving_frame-leaving.new.store c.leaving_frame-leaving.ensures.backing) c.finish.ensures.counts

pub returns-clause-counts : goal.returns-clause-counts
returns-clause-counts g c =
    let w : View = seen g.B.Backing.meaning g.T.HasCache.lens c.args.boards.now c.args.store.now in
    let u : View = seen g.B.Backing.meaning g.T.HasCache.lens c.leaving_frame-leaving.new.boards c.leaving_frame-leaving.new.store in
    let v : View = seen g.B.Backing.meaning g.T.HasCache.lens c.finish.new.boards c.finish.new.store in
    let full = sym c.free_one.ensures.least ∙ none_is c.free_one.result (λ n h. c.in_default.not-Some n h) in
    counts_freeing c.args.b w u v c.leaving_frame-leaving.result c.requires.stands full c.leaving_frame-leaving.ensures.leaving
    (same_swap g.B.Backing.meaning g.T.HasCache.lens c.args.boards.now c.leaving_frame-leaving.new.boards c.args.store.now c.leaving_frame-leaving.new.store c.leaving_frame-leaving.ensures.backing) c.finish.ensures.counts
