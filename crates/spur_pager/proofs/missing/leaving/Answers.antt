use Rattle.std.proofs.Common.{◌<◌, ◌∙◌, ℕ, subst, sym}
use Rattle.spur_pager.proofs.FinishFacts.{counts_leaving}
use Rattle.std.proofs.lemmas.List.{length-map}
use Rattle.spur_addr.specs.PageEntry.{number_of}
use Rattle.spur_addr.specs.Address.{page_of}
use Rattle.spur_pager.specs.Stand.{entry_in}
use Rattle.spur_pager.specs.View.{View, seen}
use Rattle.spur_pager.proofs.ServeFacts.{leaving_at, leaving_not_served, leaving_served, same_frame}
use Rattle.spur_pager.proofs.missing.leaving.Goals as goal

pub unreachable-requires : goal.unreachable-requires
unreachable-requires g c =
    let w : View = seen g.B.Backing.meaning g.T.HasCache.lens c.args.boards.now c.args.store.now in
    let within = subst (λ (n : ℕ). c.args.b < n) (sym (length-map c.args.boards.now g.T.HasCache.lens.lines_of)) c.requires.own in
    let there = leaving_at w c.requires.stands.rest c.args.b c.args.at c.requires.stands.stands within c.requires.user c.requires.fault in
    c.in_default.not-Some (number_of (entry_in w (page_of c.args.at))) (c.leaving.ensures.leaving ∙ there.leaving)

pub returns-in-Ok-clause-serves : goal.returns-in-Ok-clause-serves
returns-in-Ok-clause-serves g c =
    let w : View = seen g.B.Backing.meaning g.T.HasCache.lens c.args.boards.now c.args.store.now in
    let v : View = seen g.B.Backing.meaning g.T.HasCache.lens c.finish.new.boards c.finish.new.store in
    let within = subst (λ (n : ℕ). c.args.b < n) (sym (length-map c.args.boards.now g.T.HasCache.lens.lines_of)) c.requires.own in
    let there = leaving_at w c.requires.stands.rest c.args.b c.args.at c.requires.stands.stands within c.requires.user c.requires.fault in
    let here = same_frame w c.args.at c.in-Some.frame (number_of (entry_in w (page_of c.args.at))) there (sym c.leaving.ensures.leaving ∙ c.in-Some.is) in
    leaving_served c.args.b w v c.args.at c.in-Some.frame c.in-Some.ensures.taken here c.in-Ok.ensures.finishes

pub returns-in-Err-clause-serves : goal.returns-in-Err-clause-serves
returns-in-Err-clause-serves g c =
    let w : View = seen g.B.Backing.meaning g.T.HasCache.lens c.args.boards.now c.args.store.now in
    let v : View = seen g.B.Backing.meaning g.T.HasCache.lens c.finish.new.boards c.finish.new.store in
    let within = subst (λ (n : ℕ). c.args.b < n) (sym (length-map c.args.boards.now g.T.HasCache.lens.lines_of)) c.requires.own in
    leaving_not_served c.args.b w v c.requires.stands.rest c.args.at c.in-Some.frame c.requires.stands.stands within c.requires.user c.requires.fault (sym c.leaving.ensures.leaving ∙ c.in-Some.is) c.in-Err.ensures.failed

pub returns-in-Ok-clause-counts : goal.returns-in-Ok-clause-counts
returns-in-Ok-clause-counts g c =
    let w : View = seen g.B.Backing.meaning g.T.HasCache.lens c.args.boards.now c.args.store.now in
    let v : View = seen g.B.Backing.meaning g.T.HasCache.lens c.finish.new.boards c.finish.new.store in
    counts_leaving w v c.in-Some.frame (sym c.leaving.ensures.leaving ∙ c.in-Some.is) c.finish.ensures.counts

pub returns-in-Err-clause-counts : goal.returns-in-Err-clause-counts
returns-in-Err-clause-counts g c =
    let w : View = seen g.B.Backing.meaning g.T.HasCache.lens c.args.boards.now c.args.store.now in
    let v : View = seen g.B.Backing.meaning g.T.HasCache.lens c.finish.new.boards c.finish.new.store in
    counts_leaving w v c.in-Some.frame (sym c.leaving.ensures.leaving ∙ c.in-Some.is) c.finish.ensures.counts
