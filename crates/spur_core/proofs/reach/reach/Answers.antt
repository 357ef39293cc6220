use Rattle.std.proofs.Common.{◌<◌, ◌≤◌, ◌∙◌, ℕ, [], None, Option, Some, Result, get_or, subst, sym}
use Rattle.std.proofs.lemmas.List.{length-map}
use Rattle.spur_snoop.specs.declared.Need.{Need}
use Rattle.spur_flat.specs.declared.access.FaultKind.{FaultKind}
use Rattle.spur_walk.specs.Bounds.{steps_left}
use Rattle.spur_walk.specs.Laws.{need_of}
use Rattle.spur_bus.proofs.LensFacts.{only_lines-same, only_lines-then}
use Rattle.spur_pager.specs.declared.fault.ServeFault.{ServeFault}
use Rattle.spur_pager.specs.Faults.{faults_left}
use Rattle.spur_pager.specs.Served.{Does, IsServed}
use Rattle.spur_pager.specs.View.{View, seen}
use Rattle.spur_core.specs.Approach.{Approaches}
use Rattle.spur_core.proofs.ComesFacts.{comes_none, servable_now}
use Rattle.spur_core.proofs.RoundFacts.{becomes_ready, ends_by_fault, ends_by_swap, enough_steps, fault_fits, fault_room, faulted, faults_stepped, goes_on, has_fault, none_of, succeeded, succeeded_with, tallies_none}
use Rattle.spur_core.proofs.reach.reach.Goals as goal

pub loop-kind-init : goal.loop-kind-init
loop-kind-init g c =
    let w : View = seen g.B.Backing.meaning g.T.HasCache.lens c.args.boards.now c.args.store.now in
    record {
      own = c.requires.own;
      need = c.need_for-need.ensures;
      entries = [];
      faults = [];
      comes = comes_none c.args.b c.args.at c.args.access w;
      tallies = tallies_none c.args.b c.args.at (need_of c.args.access) w;
      room = c.requires.room;
      lens = only_lines-same g.T.HasCache.lens g.met.T.HasCache.lawful c.args.boards.now;
    }

pub approach-requires-clause-walk : goal.approach-requires-clause-walk
approach-requires-clause-walk g c =
    let now = c.loop-kind.invariant in
    (servable_now c.args.b c.args.at c.args.access _ _ now.entries now.faults [] now.comes c.requires.stands).stands.walk

pub approach-requires-clause-room : goal.approach-requires-clause-room
approach-requires-clause-room g c =
    let u : View = seen g.B.Backing.meaning g.T.HasCache.lens c.loop-kind.boards c.loop-kind.store in
    subst (λ (n : Need). steps_left (get_or u.caches c.args.b []) c.args.at n ≤ u.room) (sym c.need_for-need.ensures) (enough_steps u c.args.b c.args.at (need_of c.args.access) c.loop-kind.invariant.room)

pub returns-in_default-clause-reaches : goal.returns-in_default-clause-reaches
returns-in_default-clause-reaches g c =
    let lens = g.T.HasCache.lens in
    let w : View = seen g.B.Backing.meaning lens c.args.boards.now c.args.store.now in
    let u : View = seen g.B.Backing.meaning lens c.loop-kind.boards c.loop-kind.store in
    let v : View = seen g.B.Backing.meaning lens c.approach.new.boards c.approach.new.store in
    let now = c.loop-kind.invariant in
    let a : Approaches c.args.b c.args.at (need_of c.args.access) u v None = subst (λ (n : Need). Approaches c.args.b c.args.at n u v None) c.need_for-need.ensures
    (subst (λ (r : Option FaultKind). Approaches c.args.b c.args.at c.need_for-need.result u v r) (none_of c.approach.result (λ kind is. c.in_default.not-Some kind is)) c.approach.ensures.approaches) in
    becomes_ready c.args.b c.args.at c.args.access w u v now.entries now.faults now.comes now.tallies a c.requires.stands c.frames.ensures.table now.room

pub returns-in_default-clause-lens : goal.returns-in_default-clause-lens
returns-in_default-clause-lens g c =
    only_lines-then g.T.HasCache.lens g.met.T.HasCache.lawful c.args.boards.now c.loop-kind.boards c.approach.new.boards c.loop-kind.invariant.lens c.approach.ensures.lens

pub append-requires : goal.append-requires
append-requires g c =
    let lens = g.T.HasCache.lens in
    let w : View = seen g.B.Backing.meaning lens c.args.boards.now c.args.store.now in
    let u : View = seen g.B.Backing.meaning lens c.loop-kind.boards c.loop-kind.store in
    let v : View = seen g.B.Backing.meaning lens c.approach.new.boards c.approach.new.store in
    let b = c.args.b in
    let at = c.args.at in
    let access = c.args.access in
    let kind = c.in-Some.kind in
    let now = c.loop-kind.invariant in
    let within = subst (λ (n : ℕ). b < n) (sym (length-map c.args.boards.now lens.lines_of)) c.requires.own in
    let a : Approaches b at (need_of access) u v (Some kind) = subst (λ (n : Need). Approaches b at n u v (Some kind)) c.need_for-need.ensures c.in-Some.ensures.approaches in
    fault_room u v b at (need_of access) (Some kind) a (servable_now b at access w u now.entries now.faults [] now.comes c.requires.stands) c.frames.ensures.table now.room

pub returns-then-ends-clause-reaches : goal.returns-then-ends-clause-reaches
returns-then-ends-clause-reaches g c =
    let lens = g.T.HasCache.lens in
    let w : View = seen g.B.Backing.meaning lens c.args.boards.now c.args.store.now in
    let u : View = seen g.B.Backing.meaning lens c.loop-kind.boards c.loop-kind.store in
    let v : View = seen g.B.Backing.meaning lens c.approach.new.boards c.approach.new.store in
    let b = c.args.b in
    let at = c.args.at in
    let access = c.args.access in
    let kind = c.in-Some.kind in
    let now = c.loop-kind.invariant in
    let within = subst (λ (n : ℕ). b < n) (sym (length-map c.args.boards.now lens.lines_of)) c.requires.own in
    let a : Approaches b at (need_of access) u v (Some kind) = subst (λ (n : Need). Approaches b at n u v (Some kind)) c.need_for-need.ensures c.in-Some.ensures.approaches in
    let z : View = record v { history = c.append.new.self.entries; room = c.append.new.self.room } in
    let f = faulted b at access kind w u v now.entries now.faults c.append.new.self.entries c.append.new.self.room c.requires.stands within c.requires.user c.requires.aligned now.comes now.tallies a c.frames.ensures.table now.room c.append.ensures.entry c.append.ensures.room in
    ends_by_fault b at access kind w z _ now.faults f (sym c.ends.ensures ∙ c.if-ends.true)

pub returns-then-ends-clause-lens : goal.returns-then-ends-clause-lens
returns-then-ends-clause-lens g c =
    only_lines-then g.T.HasCache.lens g.met.T.HasCache.lawful c.args.boards.now c.loop-kind.boards c.approach.new.boards c.loop-kind.invariant.lens c.approach.ensures.lens

pub serve-requires-clause-stands : goal.serve-requires-clause-stands
serve-requires-clause-stands g c =
    let lens = g.T.HasCache.lens in
    let w : View = seen g.B.Backing.meaning lens c.args.boards.now c.args.store.now in
    let u : View = seen g.B.Backing.meaning lens c.loop-kind.boards c.loop-kind.store in
    let v : View = seen g.B.Backing.meaning lens c.approach.new.boards c.approach.new.store in
    let b = c.args.b in
    let at = c.args.at in
    let access = c.args.access in
    let kind = c.in-Some.kind in
    let now = c.loop-kind.invariant in
    let within = subst (λ (n : ℕ). b < n) (sym (length-map c.args.boards.now lens.lines_of)) c.requires.own in
    let a : Approaches b at (need_of access) u v (Some kind) = subst (λ (n : Need). Approaches b at n u v (Some kind)) c.need_for-need.ensures c.in-Some.ensures.approaches in
    let f = faulted b at access kind w u v now.entries now.faults c.append.new.self.entries c.append.new.self.room c.requires.stands within c.requires.user c.requires.aligned now.comes now.tallies a c.frames.ensures.table now.room c.append.ensures.entry c.append.ensures.room in
    f.servable

pub serve-requires-clause-fault : goal.serve-requires-clause-fault
serve-requires-clause-fault g c =
    let lens = g.T.HasCache.lens in
    let w : View = seen g.B.Backing.meaning lens c.args.boards.now c.args.store.now in
    let u : View = seen g.B.Backing.meaning lens c.loop-kind.boards c.loop-kind.store in
    let v : View = seen g.B.Backing.meaning lens c.approach.new.boards c.approach.new.store in
    let b = c.args.b in
    let at = c.args.at in
    let access = c.args.access in
    let kind = c.in-Some.kind in
    let now = c.loop-kind.invariant in
    let within = subst (λ (n : ℕ). b < n) (sym (length-map c.args.boards.now lens.lines_of)) c.requires.own in
    let a : Approaches b at (need_of access) u v (Some kind) = subst (λ (n : Need). Approaches b at n u v (Some kind)) c.need_for-need.ensures c.in-Some.ensures.approaches in
    let z : View = record v { history = c.append.new.self.entries; room = c.append.new.self.room } in
    let f = faulted b at access kind w u v now.entries now.faults c.append.new.self.entries c.append.new.self.room c.requires.stands within c.requires.user c.requires.aligned now.comes now.tallies a c.frames.ensures.table now.room c.append.ensures.entry c.append.ensures.room in
    has_fault b at access kind w z _ now.faults f (sym c.ends.ensures ∙ c.if-ends.false)

pub serve-requires-clause-room : goal.serve-requires-clause-room
serve-requires-clause-room g c =
    let lens = g.T.HasCache.lens in
    let w : View = seen g.B.Backing.meaning lens c.args.boards.now c.args.store.now in
    let u : View = seen g.B.Backing.meaning lens c.loop-kind.boards c.loop-kind.store in
    let v : View = seen g.B.Backing.meaning lens c.approach.new.boards c.approach.new.store in
    let b = c.args.b in
    let at = c.args.at in
    let access = c.args.access in
    let kind = c.in-Some.kind in
    let now = c.loop-kind.invariant in
    let within = subst (λ (n : ℕ). b < n) (sym (length-map c.args.boards.now lens.lines_of)) c.requires.own in
    let a : Approaches b at (need_of access) u v (Some kind) = subst (λ (n : Need). Approaches b at n u v (Some kind)) c.need_for-need.ensures c.in-Some.ensures.approaches in
    let z : View = record v { history = c.append.new.self.entries; room = c.append.new.self.room } in
    let f = faulted b at access kind w u v now.entries now.faults c.append.new.self.entries c.append.new.self.room c.requires.stands within c.requires.user c.requires.aligned now.comes now.tallies a c.frames.ensures.table now.room c.append.ensures.entry c.append.ensures.room in
    fault_fits b at access kind w z _ now.faults c.requires.user f (sym c.ends.ensures ∙ c.if-ends.false)

pub returns-then-is_err-clause-reaches : goal.returns-then-is_err-clause-reaches
returns-then-is_err-clause-reaches g c =
    let lens = g.T.HasCache.lens in
    let w : View = seen g.B.Backing.meaning lens c.args.boards.now c.args.store.now in
    let u : View = seen g.B.Backing.meaning lens c.loop-kind.boards c.loop-kind.store in
    let v : View = seen g.B.Backing.meaning lens c.approach.new.boards c.approach.new.store in
    let b = c.args.b in
    let at = c.args.at in
    let access = c.args.access in
    let kind = c.in-Some.kind in
    let now = c.loop-kind.invariant in
    let within = subst (λ (n : ℕ). b < n) (sym (length-map c.args.boards.now lens.lines_of)) c.requires.own in
    let a : Approaches b at (need_of access) u v (Some kind) = subst (λ (n : Need). Approaches b at n u v (Some kind)) c.need_for-need.ensures c.in-Some.ensures.approaches in
    let z : View = record v { history = c.append.new.self.entries; room = c.append.new.self.room } in
    let y : View = seen g.B.Backing.meaning lens c.serve.new.boards c.serve.new.store in
    let f = faulted b at access kind w u v now.entries now.faults c.append.new.self.entries c.append.new.self.room c.requires.stands within c.requires.user c.requires.aligned now.comes now.tallies a c.frames.ensures.table now.room c.append.ensures.entry c.append.ensures.room in
    ends_by_swap b at access kind w z y _ now.faults c.serve.result f (sym c.is_err.ensures.value ∙ c.if-is_err.true) c.serve.ensures.err c.serve.ensures.does c.serve.ensures.carried c.serve.ensures.keeps c.serve.ensures.counts.later

pub returns-then-is_err-clause-lens : goal.returns-then-is_err-clause-lens
returns-then-is_err-clause-lens g c =
    let lens = g.T.HasCache.lens in
    only_lines-then lens g.met.T.HasCache.lawful c.args.boards.now c.approach.new.boards c.serve.new.boards
    (only_lines-then lens g.met.T.HasCache.lawful c.args.boards.now c.loop-kind.boards c.approach.new.boards c.loop-kind.invariant.lens c.approach.ensures.lens) c.serve.ensures.lens

pub loop-kind-smaller : goal.loop-kind-smaller
loop-kind-smaller g c =
    let lens = g.T.HasCache.lens in
    let w : View = seen g.B.Backing.meaning lens c.args.boards.now c.args.store.now in
    let u : View = seen g.B.Backing.meaning lens c.loop-kind.boards c.loop-kind.store in
    let v : View = seen g.B.Backing.meaning lens c.approach.new.boards c.approach.new.store in
    let b = c.args.b in
    let at = c.args.at in
    let access = c.args.access in
    let kind = c.in-Some.kind in
    let now = c.loop-kind.invariant in
    let within = subst (λ (n : ℕ). b < n) (sym (length-map c.args.boards.now lens.lines_of)) c.requires.own in
    let a : Approaches b at (need_of access) u v (Some kind) = subst (λ (n : Need). Approaches b at n u v (Some kind)) c.need_for-need.ensures c.in-Some.ensures.approaches in
    let z : View = record v { history = c.append.new.self.entries; room = c.append.new.self.room } in
    let y : View = seen g.B.Backing.meaning lens c.serve.new.boards c.serve.new.store in
    let f = faulted b at access kind w u v now.entries now.faults c.append.new.self.entries c.append.new.self.room c.requires.stands within c.requires.user c.requires.aligned now.comes now.tallies a c.frames.ensures.table now.room c.append.ensures.entry c.append.ensures.room in
    let ok = succeeded c.serve.result (sym c.is_err.ensures.value ∙ c.if-is_err.false) in
    let served : IsServed b z kind at y = succeeded_with (IsServed b z kind at y) c.serve.result ok c.serve.ensures.ok in
    let does = subst (λ (r : Result (Unit {0}) ServeFault). Does b z kind at r y) ok c.serve.ensures.does in
    let on = goes_on b at access kind w z y _ now.faults c.requires.user f (sym c.ends.ensures ∙ c.if-ends.false) does c.serve.ensures.carried served c.serve.ensures.keeps c.serve.ensures.counts.later in
    subst (λ (n : ℕ). faults_left y b at < n) (faults_stepped u v b at (need_of access) a.way) on.fewer

pub loop-kind-preserved : goal.loop-kind-preserved
loop-kind-preserved g c =
    let lens = g.T.HasCache.lens in
    let w : View = seen g.B.Backing.meaning lens c.args.boards.now c.args.store.now in
    let u : View = seen g.B.Backing.meaning lens c.loop-kind.boards c.loop-kind.store in
    let v : View = seen g.B.Backing.meaning lens c.approach.new.boards c.approach.new.store in
    let b = c.args.b in
    let at = c.args.at in
    let access = c.args.access in
    let kind = c.in-Some.kind in
    let now = c.loop-kind.invariant in
    let within = subst (λ (n : ℕ). b < n) (sym (length-map c.args.boards.now lens.lines_of)) c.requires.own in
    let a : Approaches b at (need_of access) u v (Some kind) = subst (λ (n : Need). Approaches b at n u v (Some kind)) c.need_for-need.ensures c.in-Some.ensures.approaches in
    let z : View = record v { history = c.append.new.self.entries; room = c.append.new.self.room } in
    let y : View = seen g.B.Backing.meaning lens c.serve.new.boards c.serve.new.store in
    let f = faulted b at access kind w u v now.entries now.faults c.append.new.self.entries c.append.new.self.room c.requires.stands within c.requires.user c.requires.aligned now.comes now.tallies a c.frames.ensures.table now.room c.append.ensures.entry c.append.ensures.room in
    let ok = succeeded c.serve.result (sym c.is_err.ensures.value ∙ c.if-is_err.false) in
    let served : IsServed b z kind at y = succeeded_with (IsServed b z kind at y) c.serve.result ok c.serve.ensures.ok in
    let does = subst (λ (r : Result (Unit {0}) ServeFault). Does b z kind at r y) ok c.serve.ensures.does in
    let on = goes_on b at access kind w z y _ now.faults c.requires.user f (sym c.ends.ensures ∙ c.if-ends.false) does c.serve.ensures.carried served c.serve.ensures.keeps c.serve.ensures.counts.later in
    record {
      own = subst (λ (n : ℕ). b < n) (sym (c.serve.ensures.boards ∙ c.approach.auto.boards)) now.own;
      need = c.need_for-need.ensures;
      entries = _;
      faults = _;
      comes = on.comes;
      tallies = on.tallies;
      room = on.room;
      lens = only_lines-then lens g.met.T.HasCache.lawful c.args.boards.now c.approach.new.boards c.serve.new.boards
          (only_lines-then lens g.met.T.HasCache.lawful c.args.boards.now c.loop-kind.boards c.approach.new.boards c.loop-kind.invariant.lens c.approach.ensures.lens) c.serve.ensures.lens;
    }
