use Rattle.spur_pager.specs.Served.{writes_to_free}
use Rattle.std.proofs.Common.{◌≡◌, ◌<◌, ◌∙◌, ℕ, List, Option, ap, subst, sym}
use Rattle.spur_pager.proofs.CountFacts.{counts_then}
use Rattle.std.specs.Prelude.{IsSome, IsTrue}
use Rattle.std.proofs.lemmas.List.{length-map}
use Rattle.spur_addr.specs.Address.{entry_address_of, page_of}
use Rattle.spur_addr.specs.PageEntry.{is_readable, number_of}
use Rattle.spur_cache.specs.declared.line.Line.{Line}
use Rattle.spur_cache.specs.Lines.{found, word_in}
use Rattle.spur_flat.specs.declared.access.FaultKind.TheVariants as fault
use Rattle.spur_bus.proofs.BoardFacts.{lines_here}
use Rattle.spur_walk.proofs.TableFacts.{entry_readable}
use Rattle.spur_pager.specs.Stand.{entry_in}
use Rattle.spur_pager.specs.Moves.{ComesIn, MayComeIn}
use Rattle.spur_pager.specs.View.{View, seen}
use Rattle.spur_bus.proofs.LensFacts.{only_lines-then}
use Rattle.spur_pager.proofs.ServeFacts.{absent_entry, block_some, entry_block_there, entry_there, may_come_in, missing_not_freed, missing_not_read, missing_served}
use Rattle.spur_pager.proofs.missing.missing.Goals as goal

pub entry_here-requires-clause-there : goal.entry_here-requires-clause-there
entry_here-requires-clause-there g c =
    let w : View = seen g.B.Backing.meaning g.T.HasCache.lens c.args.boards.now c.args.store.now in
    let own = lines_here g.T.HasCache.lens.lines_of c.args.boards.now c.args.b c.index-boards-b.result c.requires.own ∙ sym c.cache.ensures.lines in
    subst (λ (ls : List (Option Line)). IsSome (found ls (entry_address_of c.args.at))) own
    (block_some w.caches c.args.b (entry_address_of c.args.at) (entry_block_there w c.args.b c.args.at fault.Missing c.requires.fault))

pub entry_here-requires-clause-readable : goal.entry_here-requires-clause-readable
entry_here-requires-clause-readable g c =
    let w : View = seen g.B.Backing.meaning g.T.HasCache.lens c.args.boards.now c.args.store.now in
    let within = subst (λ (n : ℕ). c.args.b < n) (sym (length-map c.args.boards.now g.T.HasCache.lens.lines_of)) c.requires.own in
    let own = lines_here g.T.HasCache.lens.lines_of c.args.boards.now c.args.b c.index-boards-b.result c.requires.own ∙ sym c.cache.ensures.lines in
    subst (λ (ls : List (Option Line)). IsTrue (is_readable (word_in (found ls (entry_address_of c.args.at)) (entry_address_of c.args.at)))) own
    (entry_readable w.caches w.memory c.args.b c.args.at c.requires.stands.stands.walk within c.requires.user)

pub returns-in_default-clause-serves : goal.returns-in_default-clause-serves
returns-in_default-clause-serves g c =
    let w : View = seen g.B.Backing.meaning g.T.HasCache.lens c.args.boards.now c.args.store.now in
    let v : View = seen g.B.Backing.meaning g.T.HasCache.lens c.free_frame.new.boards c.free_frame.new.store in
    missing_not_freed c.args.b w v c.args.at c.in_default.ensures.failed

pub bring_in-requires-clause-stands : goal.bring_in-requires-clause-stands
bring_in-requires-clause-stands g c = record { rest = c.requires.stands.rest; stands = (c.in-Ok.ensures.free.runs.carries c.requires.stands.rest c.requires.stands.stands).stands }

pub bring_in-requires-clause-may : goal.bring_in-requires-clause-may
bring_in-requires-clause-may g c =
    let w : View = seen g.B.Backing.meaning g.T.HasCache.lens c.args.boards.now c.args.store.now in
    let u : View = seen g.B.Backing.meaning g.T.HasCache.lens c.free_frame.new.boards c.free_frame.new.store in
    let within = subst (λ (n : ℕ). c.args.b < n) (sym (length-map c.args.boards.now g.T.HasCache.lens.lines_of)) c.requires.own in
    let own = lines_here g.T.HasCache.lens.lines_of c.args.boards.now c.args.b c.index-boards-b.result c.requires.own ∙ sym c.cache.ensures.lines in
    let absent = absent_entry w c.requires.stands.rest c.args.b c.args.at c.requires.stands.stands within c.requires.user c.requires.fault in
    let word = entry_there w c.requires.stands.rest c.args.b c.args.at fault.Missing c.requires.stands.stands within c.requires.user c.requires.fault in
    let here = ap (λ (ls : List (Option Line)). word_in (found ls (entry_address_of c.args.at)) (entry_address_of c.args.at)) own ∙ sym c.entry_here.ensures in
    let number : number_of (entry_in w (page_of c.args.at)) ≡ c.number-slot.result = ap (λ (n : ℕ). number_of n) (sym word ∙ here) ∙ sym c.number-slot.ensures.value in
    subst (λ (p : ℕ). MayComeIn u c.args.b c.in-Ok.frame p c.number-slot.result) (sym c.page.ensures.value) (may_come_in c.args.b w u c.args.at c.in-Ok.frame c.number-slot.result within c.requires.user absent number c.in-Ok.ensures.free)

pub returns-in-Ok-bring_in-clause-serves : goal.returns-in-Ok-bring_in-clause-serves
returns-in-Ok-bring_in-clause-serves g c =
    let w : View = seen g.B.Backing.meaning g.T.HasCache.lens c.args.boards.now c.args.store.now in
    let u : View = seen g.B.Backing.meaning g.T.HasCache.lens c.free_frame.new.boards c.free_frame.new.store in
    let v : View = seen g.B.Backing.meaning g.T.HasCache.lens c.bring_in.new.boards c.bring_in.new.store in
    let within = subst (λ (n : ℕ). c.args.b < n) (sym (length-map c.args.boards.now g.T.HasCache.lens.lines_of)) c.requires.own in
    let own = lines_here g.T.HasCache.lens.lines_of c.args.boards.now c.args.b c.index-boards-b.result c.requires.own ∙ sym c.cache.ensures.lines in
    let absent = absent_entry w c.requires.stands.rest c.args.b c.args.at c.requires.stands.stands within c.requires.user c.requires.fault in
    let word = entry_there w c.requires.stands.rest c.args.b c.args.at fault.Missing c.requires.stands.stands within c.requires.user c.requires.fault in
    let here = ap (λ (ls : List (Option Line)). word_in (found ls (entry_address_of c.args.at)) (entry_address_of c.args.at)) own ∙ sym c.entry_here.ensures in
    let number : number_of (entry_in w (page_of c.args.at)) ≡ c.number-slot.result = ap (λ (n : ℕ). number_of n) (sym word ∙ here) ∙ sym c.number-slot.ensures.value in
    missing_served c.args.b w u v c.args.at c.in-Ok.frame c.number-slot.result c.requires.user absent number c.in-Ok.ensures.free
    (subst (λ (p : ℕ). ComesIn c.args.b c.in-Ok.frame p c.number-slot.result u v) c.page.ensures.value c.in-Ok-bring_in.ensures.brought)

pub returns-in-Ok-bring_in-clause-lens : goal.returns-in-Ok-bring_in-clause-lens
returns-in-Ok-bring_in-clause-lens g c =
    only_lines-then g.T.HasCache.lens g.met.T.HasCache.lawful c.args.boards.now c.free_frame.new.boards c.bring_in.new.boards c.free_frame.ensures.lens c.bring_in.ensures.lens

pub returns-in-Err-clause-serves : goal.returns-in-Err-clause-serves
returns-in-Err-clause-serves g c =
    let w : View = seen g.B.Backing.meaning g.T.HasCache.lens c.args.boards.now c.args.store.now in
    let u : View = seen g.B.Backing.meaning g.T.HasCache.lens c.free_frame.new.boards c.free_frame.new.store in
    let v : View = seen g.B.Backing.meaning g.T.HasCache.lens c.bring_in.new.boards c.bring_in.new.store in
    let within = subst (λ (n : ℕ). c.args.b < n) (sym (length-map c.args.boards.now g.T.HasCache.lens.lines_of)) c.requires.own in
    let absent = absent_entry w c.requires.stands.rest c.args.b c.args.at c.requires.stands.stands within c.requires.user c.requires.fault in
    missing_not_read c.args.b w u v c.args.at c.in-Ok.frame c.requires.user absent c.free_frame.ensures.counts.later c.in-Ok.ensures.free c.in-Err.ensures.failed

pub returns-in-Err-clause-lens : goal.returns-in-Err-clause-lens
returns-in-Err-clause-lens g c =
    only_lines-then g.T.HasCache.lens g.met.T.HasCache.lawful c.args.boards.now c.free_frame.new.boards c.bring_in.new.boards c.free_frame.ensures.lens c.bring_in.ensures.lens

pub returns-in-Ok-bring_in-clause-counts : goal.returns-in-Ok-bring_in-clause-counts
returns-in-Ok-bring_in-clause-counts g c =
    let w : View = seen g.B.Backing.meaning g.T.HasCache.lens c.args.boards.now c.args.store.now in
    let u : View = seen g.B.Backing.meaning g.T.HasCache.lens c.free_frame.new.boards c.free_frame.new.store in
    let v : View = seen g.B.Backing.meaning g.T.HasCache.lens c.bring_in.new.boards c.bring_in.new.store in
    counts_then w u v (writes_to_free w) c.free_frame.ensures.counts c.bring_in.ensures.counts

pub returns-in-Err-clause-counts : goal.returns-in-Err-clause-counts
returns-in-Err-clause-counts g c =
    let w : View = seen g.B.Backing.meaning g.T.HasCache.lens c.args.boards.now c.args.store.now in
    let u : View = seen g.B.Backing.meaning g.T.HasCache.lens c.free_frame.new.boards c.free_frame.new.store in
    let v : View = seen g.B.Backing.meaning g.T.HasCache.lens c.bring_in.new.boards c.bring_in.new.store in
    counts_then w u v (writes_to_free w) c.free_frame.ensures.counts c.bring_in.ensures.counts
