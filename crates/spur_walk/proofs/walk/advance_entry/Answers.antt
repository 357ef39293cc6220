use Rattle.std.proofs.Common.{ℕ, subst, sym}
use Rattle.spur_addr.specs.Address.{entry_address_of}
use Rattle.spur_cache.specs.Lens.{caches}
use Rattle.spur_walk.specs.declared.plan.Plan.{Plan}
use Rattle.spur_walk.specs.Plan.{page_plan}
use Rattle.spur_walk.specs.Tables.{logical_flat}
use Rattle.spur_walk.specs.Steps.{MayDo}
use Rattle.spur_walk.proofs.PlanFacts.{may_do_page}
use Rattle.spur_walk.proofs.WalkFacts.{answered_by, boards_still, memory_still, page_planned, root_read, same_count, same_root, stepped_by, within}
use Rattle.spur_walk.proofs.walk.advance_entry.Goals as goal

pub page_step-plan-requires-clause-root : goal.page_step-plan-requires-clause-root
page_step-plan-requires-clause-root g c =
    root_read g.T.HasCache.lens.lines_of c.args.boards.now c.index-boards-b.result c.cache.result.now c.args.phys.now c.args.b c.args.page c.requires.own c.requires.walk c.requires.user c.cache.ensures.lines

pub perform-requires-clause-may : goal.perform-requires-clause-may
perform-requires-clause-may g c =
    let lens = g.T.HasCache.lens in
    let olds = caches lens c.args.boards.now in
    let plan = page_planned lens.lines_of c.args.boards.now c.index-boards-b.result c.cache.result.now c.args.phys.now c.args.b c.args.page c.page_step-plan.result
    c.requires.own c.requires.walk c.requires.user c.cache.ensures.lines c.page_step-plan.ensures in
    subst (λ (n : ℕ). MayDo (logical_flat olds c.args.phys.now) olds c.args.b n c.page_step-plan.result) (sym c.pte_of.ensures.value)
    (subst (λ (p : Plan). MayDo (logical_flat olds c.args.phys.now) olds c.args.b (entry_address_of c.args.page) p) (sym plan)
    (may_do_page (logical_flat olds c.args.phys.now) olds c.args.b c.args.page c.requires.walk.agree (within lens.lines_of c.args.boards.now c.args.b c.requires.own) c.requires.user c.requires.root))

pub returns : goal.returns
returns g c =
    let lens = g.T.HasCache.lens in
    let olds = caches lens c.args.boards.now in
    let news = caches lens c.perform.new.boards in
    let memory = c.args.phys.now in
    let done = c.perform.ensures in
    let at = entry_address_of c.args.page in
    let plan = page_planned lens.lines_of c.args.boards.now c.index-boards-b.result c.cache.result.now memory c.args.b c.args.page c.page_step-plan.result
    c.requires.own c.requires.walk c.requires.user c.cache.ensures.lines c.page_step-plan.ensures in
    record {
      answer = answered_by c.args.b c.pte_of.result at c.page_step-plan.result (page_plan olds memory c.args.b c.args.page) c.perform.result done.answer c.pte_of.ensures.value plan;
      lens = done.lens;
      boards_stay = boards_still lens g.met.T.HasCache.lawful c.args.boards.now c.perform.new.boards memory c.perform.new.phys c.args.b c.pte_of.result c.page_step-plan.result c.perform.result done.answer done.lens done.steps;
      memory_stays = memory_still olds news memory c.perform.new.phys c.args.b c.pte_of.result c.page_step-plan.result c.perform.result done.answer done.steps;
      steps = stepped_by olds news memory c.perform.new.phys c.args.b c.pte_of.result at c.page_step-plan.result (page_plan olds memory c.args.b c.args.page) done.steps c.pte_of.ensures.value plan;
      count = same_count lens.lines_of c.args.boards.now c.perform.new.boards done.steps.count;
      root = same_root olds news memory c.perform.new.phys c.args.page done.steps.logical c.requires.root;
    }
