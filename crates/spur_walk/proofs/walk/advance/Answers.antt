use Rattle.std.proofs.Common.{refl, subst, sym}
use Rattle.spur_cache.specs.Lens.{caches}
use Rattle.spur_walk.specs.declared.plan.Plan.{Plan}
use Rattle.spur_walk.specs.Plan.{access_plan}
use Rattle.spur_walk.specs.Tables.{logical_flat}
use Rattle.spur_walk.specs.Steps.{MayDo}
use Rattle.spur_walk.proofs.PlanFacts.{may_do}
use Rattle.spur_walk.proofs.WalkFacts.{answered_by, boards_still, entry_read, memory_still, planned, root_read, same_count, stepped_by, within}
use Rattle.spur_walk.proofs.walk.advance.Goals as goal

pub access_step-plan-requires-clause-entry : goal.access_step-plan-requires-clause-entry
access_step-plan-requires-clause-entry g c =
    entry_read g.T.HasCache.lens.lines_of c.args.boards.now c.index-boards-b.result c.cache.result.now c.args.phys.now c.args.b c.args.at c.requires.own c.requires.walk c.requires.user c.cache.ensures.lines

pub access_step-plan-requires-clause-root : goal.access_step-plan-requires-clause-root
access_step-plan-requires-clause-root g c =
    root_read g.T.HasCache.lens.lines_of c.args.boards.now c.index-boards-b.result c.cache.result.now c.args.phys.now c.args.b c.args.at c.requires.own c.requires.walk c.requires.user c.cache.ensures.lines

pub perform-requires-clause-may : goal.perform-requires-clause-may
perform-requires-clause-may g c =
    let lens = g.T.HasCache.lens in
    let olds = caches lens c.args.boards.now in
    let plan = planned lens.lines_of c.args.boards.now c.index-boards-b.result c.cache.result.now c.args.phys.now c.args.b c.args.at c.args.need c.access_step-plan.result
    c.requires.own c.requires.walk c.requires.user c.cache.ensures.lines c.access_step-plan.ensures in
    subst (λ (p : Plan). MayDo (logical_flat olds c.args.phys.now) olds c.args.b c.args.at p) (sym plan)
    (may_do (logical_flat olds c.args.phys.now) olds c.args.b c.args.at c.args.need c.requires.walk.agree (within lens.lines_of c.args.boards.now c.args.b c.requires.own) c.requires.user)

pub returns : goal.returns
returns g c =
    let lens = g.T.HasCache.lens in
    let olds = caches lens c.args.boards.now in
    let news = caches lens c.perform.new.boards in
    let memory = c.args.phys.now in
    let done = c.perform.ensures in
    let plan = planned lens.lines_of c.args.boards.now c.index-boards-b.result c.cache.result.now memory c.args.b c.args.at c.args.need c.access_step-plan.result
    c.requires.own c.requires.walk c.requires.user c.cache.ensures.lines c.access_step-plan.ensures in
    record {
      answer = answered_by c.args.b c.args.at c.args.at c.access_step-plan.result (access_plan olds memory c.args.b c.args.at c.args.need) c.perform.result done.answer refl plan;
      lens = done.lens;
      boards_stay = boards_still lens g.met.T.HasCache.lawful c.args.boards.now c.perform.new.boards memory c.perform.new.phys c.args.b c.args.at c.access_step-plan.result c.perform.result done.answer done.lens done.steps;
      memory_stays = memory_still olds news memory c.perform.new.phys c.args.b c.args.at c.access_step-plan.result c.perform.result done.answer done.steps;
      steps = stepped_by olds news memory c.perform.new.phys c.args.b c.args.at c.args.at c.access_step-plan.result (access_plan olds memory c.args.b c.args.at c.args.need) done.steps refl plan;
      count = same_count lens.lines_of c.args.boards.now c.perform.new.boards done.steps.count;
    }
