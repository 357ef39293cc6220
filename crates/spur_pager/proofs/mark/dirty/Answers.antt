use Rattle.std.proofs.Common.{ℕ, [], ◌∷◌, ◌<◌, subst, sym}
use Rattle.std.proofs.lemmas.List.{length-map}
use Rattle.spur_pager.specs.declared.change.Change.TheVariants.{Dirty}
use Rattle.spur_pager.specs.Acts.{Writes}
use Rattle.spur_pager.specs.Changes.{changed_word, entry_for}
use Rattle.spur_pager.specs.Marks.{IsMarked, MayMark}
use Rattle.spur_pager.specs.Runs.{Runs}
use Rattle.spur_pager.specs.View.{View, seen}
use Rattle.spur_pager.proofs.FaultFacts.{dirty_may, dirty_served}
use Rattle.spur_pager.proofs.mark.dirty.Goals as goal

pub mark-requires-clause-may : goal.mark-requires-clause-may
mark-requires-clause-may g c =
    let w : View = seen g.B.Backing.meaning g.T.HasCache.lens c.args.boards.now c.args.store.now in
    let within = subst (λ (n : ℕ). c.args.b < n) (sym (length-map c.args.boards.now g.T.HasCache.lens.lines_of)) c.requires.own in
    subst (λ (n : ℕ). MayMark w c.args.b n Dirty) (sym c.page_start.ensures) (dirty_may w c.requires.stands.rest c.args.b c.args.at c.requires.stands.stands within c.requires.user c.requires.fault)

pub returns-clause-serves : goal.returns-clause-serves
returns-clause-serves g c =
    let w : View = seen g.B.Backing.meaning g.T.HasCache.lens c.args.boards.now c.args.store.now in
    let v : View = seen g.B.Backing.meaning g.T.HasCache.lens c.mark.new.boards c.mark.new.store in
    let runs = subst (λ (n : ℕ). Runs c.args.b (Writes n (entry_for Dirty c.args.b n) (changed_word Dirty) ∷ []) w v) c.page_start.ensures c.mark.ensures.runs in
    let marked = subst (λ (n : ℕ). IsMarked c.args.b n Dirty w v) c.page_start.ensures c.mark.ensures.marked in
    dirty_served c.args.b w v c.args.at runs marked c.mark.ensures.used c.mark.ensures.frames
