use Rattle.std.proofs.Common.{[], ◌≡◌, ◌<◌, ◌∙◌, ℕ, ap, get_or, map, subst, sym}
use Rattle.std.proofs.lemmas.List.{length-map}
use Rattle.spur_addr.specs.Address.{entry_address_of}
use Rattle.spur_addr.specs.PageEntry.{is_valid}
use Rattle.spur_flat.specs.declared.access.FaultKind.{FaultKind}
use Rattle.spur_flat.specs.declared.entry.Entry.{Entry}
use Rattle.spur_walk.specs.declared.plan.Plan.{Plan}
use Rattle.spur_walk.specs.declared.step.Walked.TheVariants as walked
use Rattle.spur_walk.specs.Plan.{page_plan}
use Rattle.spur_walk.specs.Steps.{answer_of, stepped, stepped_memory}
use Rattle.spur_walk.specs.Tables.{logical_flat, root_at}
use Rattle.spur_walk.proofs.AnswerFacts.{page-no-fault}
use Rattle.spur_walk.proofs.StepFacts.{same_flat}
use Rattle.spur_pager.proofs.FetchFacts.{fetched_all, ready_left, smaller, went_more, went_none}
use Rattle.spur_bus.proofs.LensFacts.{only_lines-same, only_lines-then}
use Rattle.spur_pager.proofs.entry.fetch.Goals as goal

pub loop-entry-init : goal.loop-entry-init
loop-entry-init g c =
    record {
      own = c.requires.own;
      root = c.requires.root;
      went = went_none c.args.b c.args.page (record { caches = map g.T.HasCache.lens.lines_of c.args.boards.now; memory = c.args.phys.now }) c.args.history.now c.requires.walk;
      lens = only_lines-same g.T.HasCache.lens g.met.T.HasCache.lawful c.args.boards.now;
    }

pub loop-entry-smaller : goal.loop-entry-smaller
loop-entry-smaller g c =
    let lines_of = g.T.HasCache.lens.lines_of in
    let within = subst (λ (n : ℕ). c.args.b < n) (sym (length-map c.loop-entry.boards lines_of)) c.loop-entry.invariant.own in
    smaller (map lines_of c.loop-entry.boards) (map lines_of c.advance_entry.new.boards) c.loop-entry.phys c.args.b c.args.page c.in-Moved.entry c.loop-entry.invariant.went.leads.walk within c.requires.user
    (sym c.advance_entry.ensures.answer ∙ c.in-Moved.is) c.advance_entry.ensures.steps.caches

pub loop-entry-preserved : goal.loop-entry-preserved
loop-entry-preserved g c =
    let lines_of = g.T.HasCache.lens.lines_of in
    let within = subst (λ (n : ℕ). c.args.b < n) (sym (length-map c.loop-entry.boards lines_of)) c.loop-entry.invariant.own in
    let caches = map lines_of c.loop-entry.boards in
    let news = map lines_of c.advance_entry.new.boards in
    let steps = c.advance_entry.ensures.steps in
    let count = sym (length-map c.advance_entry.new.boards lines_of) ∙ steps.count ∙ length-map c.loop-entry.boards lines_of in
    record {
      own = subst (λ (n : ℕ). c.args.b < n) (sym count) c.loop-entry.invariant.own;
      root = ap (λ F. is_valid (root_at F c.args.page)) (same_flat caches news c.loop-entry.phys c.advance_entry.new.phys steps.logical) ∙ c.loop-entry.invariant.root;
      went = went_more c.args.b c.args.page (record { caches = map lines_of c.args.boards.now; memory = c.args.phys.now }) (record { caches = caches; memory = c.loop-entry.phys }) (record { caches = news; memory = c.advance_entry.new.phys })
          c.args.history.now c.loop-entry.history c.append.new.self c.in-Moved.entry c.loop-entry.invariant.went within c.requires.user c.loop-entry.invariant.root steps steps.memory
          (sym c.advance_entry.ensures.answer ∙ c.in-Moved.is) c.append.ensures.entry c.append.ensures.room;
      lens = only_lines-then g.T.HasCache.lens g.met.T.HasCache.lawful c.args.boards.now c.loop-entry.boards c.advance_entry.new.boards c.loop-entry.invariant.lens
          c.advance_entry.ensures.lens;
    }

pub returns : goal.returns
returns g c =
    let lines_of = g.T.HasCache.lens.lines_of in
    let caches = map lines_of c.loop-entry.boards in
    let at = entry_address_of c.args.page in
    let p = page_plan caches c.loop-entry.phys c.args.b c.args.page in
    let ready = ready_left c.args.b at p (λ (kind : FaultKind). page-no-fault (get_or caches c.args.b []) (logical_flat caches c.loop-entry.phys) c.args.b c.args.page kind)
    (λ (e : Entry) (is : answer_of c.args.b at p ≡ walked.Moved e). c.in_default.not-Moved e (c.advance_entry.ensures.answer ∙ is)) in
    let same = c.advance_entry.ensures.steps.caches ∙ ap (λ (q : Plan). stepped caches c.loop-entry.phys c.args.b at q) ready in
    let memory = c.advance_entry.ensures.steps.memory ∙ ap (λ (q : Plan). stepped_memory caches c.loop-entry.phys c.args.b q) ready in
    record {
      fetches = fetched_all c.args.b c.args.page (record { caches = map lines_of c.args.boards.now; memory = c.args.phys.now }) (record { caches = caches; memory = c.loop-entry.phys })
          (record { caches = map lines_of c.advance_entry.new.boards; memory = c.advance_entry.new.phys }) c.args.history.now c.loop-entry.history c.loop-entry.invariant.went ready same memory;
      lens = only_lines-then g.T.HasCache.lens g.met.T.HasCache.lawful c.args.boards.now c.loop-entry.boards c.advance_entry.new.boards c.loop-entry.invariant.lens c.advance_entry.ensures.lens;
    }
