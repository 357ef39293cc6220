use Rattle.std.proofs.Common.{ℕ, ◌<◌, subst, sym}
use Rattle.std.proofs.lemmas.List.{length-map}
use Rattle.spur_cache.specs.Lens.{caches}
use Rattle.spur_bus.proofs.LensFacts.{only_lines-same}
use Rattle.spur_walk.specs.declared.plan.Plan.{Plan}
use Rattle.spur_walk.specs.Tables.{logical_flat}
use Rattle.spur_walk.specs.Steps.{MayDo, Steps}
use Rattle.spur_walk.proofs.FrameFacts.{may_read}
use Rattle.spur_walk.proofs.FillFacts.{fills_stands}
use Rattle.spur_walk.proofs.StepFacts.{claim_steps, back_steps, fill_steps, refresh_steps}
use Rattle.spur_walk.proofs.step.perform.Goals as goal

pub read-requires-clause-may : goal.read-requires-clause-may
read-requires-clause-may g c =
    let olds = caches g.T.HasCache.lens c.args.boards.now in
    let F = logical_flat olds c.args.phys.now in
    let may = subst (λ (p : Plan). MayDo F olds c.args.b c.args.at p) c.in-Fill.is c.requires.may in
    may_read olds c.args.phys.now c.args.b c.in-Fill.block c.in-Fill.place.frame c.requires.walk may.lacks may.victim
    (fills_stands F olds c.args.b c.in-Fill.layer c.in-Fill.need c.in-Fill.block c.in-Fill.place may.fills)

pub returns-in-Ready-clause-lens : goal.returns-in-Ready-clause-lens
returns-in-Ready-clause-lens g c = only_lines-same g.T.HasCache.lens g.met.T.HasCache.lawful c.args.boards.now

pub returns-in-Fault-clause-lens : goal.returns-in-Fault-clause-lens
returns-in-Fault-clause-lens g c = only_lines-same g.T.HasCache.lens g.met.T.HasCache.lawful c.args.boards.now

pub returns-in-Refresh-clause-steps : goal.returns-in-Refresh-clause-steps
returns-in-Refresh-clause-steps g c =
    let lens = g.T.HasCache.lens in
    let olds = caches lens c.args.boards.now in
    let within = subst (λ (n : ℕ). c.args.b < n) (sym (length-map c.args.boards.now lens.lines_of)) c.requires.own in
    let may = subst (λ (p : Plan). MayDo (logical_flat olds c.args.phys.now) olds c.args.b c.args.at p) c.in-Refresh.is c.requires.may in
    subst (λ (p : Plan). Steps olds c.args.phys.now c.args.b c.args.at p (caches lens c.refresh.new.boards) c.args.phys.now) (sym c.in-Refresh.is)
    (refresh_steps olds (caches lens c.refresh.new.boards) c.args.phys.now c.args.b c.args.at c.requires.walk within may
    c.refresh.ensures.change)

pub returns-in-Claim-clause-steps : goal.returns-in-Claim-clause-steps
returns-in-Claim-clause-steps g c =
    let lens = g.T.HasCache.lens in
    let olds = caches lens c.args.boards.now in
    let within = subst (λ (n : ℕ). c.args.b < n) (sym (length-map c.args.boards.now lens.lines_of)) c.requires.own in
    let may = subst (λ (p : Plan). MayDo (logical_flat olds c.args.phys.now) olds c.args.b c.args.at p) c.in-Claim.is c.requires.may in
    subst (λ (p : Plan). Steps olds c.args.phys.now c.args.b c.args.at p (caches lens c.claim.new.boards) c.args.phys.now) (sym c.in-Claim.is)
    (claim_steps olds (caches lens c.claim.new.boards) c.args.phys.now c.args.b c.args.at c.claim.result c.requires.walk within may
    c.claim.ensures.change
    c.claim.ensures.agree c.claim.ensures.words c.claim.ensures.lines c.claim.ensures.tags c.claim.ensures.entry)

pub returns-in-WriteBack-clause-steps : goal.returns-in-WriteBack-clause-steps
returns-in-WriteBack-clause-steps g c =
    let lens = g.T.HasCache.lens in
    let olds = caches lens c.args.boards.now in
    let within = subst (λ (n : ℕ). c.args.b < n) (sym (length-map c.args.boards.now lens.lines_of)) c.requires.own in
    let may = subst (λ (p : Plan). MayDo (logical_flat olds c.args.phys.now) olds c.args.b c.args.at p) c.in-WriteBack.is c.requires.may in
    subst (λ (p : Plan). Steps olds c.args.phys.now c.args.b c.args.at p (caches lens c.write_back.new.boards) c.write_back.new.phys) (sym c.in-WriteBack.is)
    (back_steps olds (caches lens c.write_back.new.boards) c.args.phys.now c.write_back.new.phys c.args.b c.args.at c.in-WriteBack.block c.write_back.result c.requires.walk within may
    c.write_back.ensures.change c.write_back.ensures.memory
    c.write_back.ensures.agree c.write_back.ensures.serves c.write_back.ensures.logical c.write_back.ensures.lines c.write_back.ensures.size c.write_back.ensures.tags c.write_back.ensures.entry)

pub returns-in-Fill-clause-steps : goal.returns-in-Fill-clause-steps
returns-in-Fill-clause-steps g c =
    let lens = g.T.HasCache.lens in
    let olds = caches lens c.args.boards.now in
    let within = subst (λ (n : ℕ). c.args.b < n) (sym (length-map c.args.boards.now lens.lines_of)) c.requires.own in
    let may = subst (λ (p : Plan). MayDo (logical_flat olds c.args.phys.now) olds c.args.b c.args.at p) c.in-Fill.is c.requires.may in
    subst (λ (p : Plan). Steps olds c.args.phys.now c.args.b c.args.at p (caches lens c.read.new.boards) c.args.phys.now) (sym c.in-Fill.is)
    (fill_steps olds (caches lens c.read.new.boards) c.args.phys.now c.args.b c.args.at c.in-Fill.block c.in-Fill.layer c.in-Fill.need c.in-Fill.place c.read.result c.requires.walk within may
    c.read.ensures.change
    c.read.ensures.agree c.read.ensures.serves c.read.ensures.logical c.read.ensures.lines c.read.ensures.tags c.read.ensures.entry)
