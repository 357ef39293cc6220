use Rattle.std.proofs.Common.{[], ℕ, ◌≢◌, arith, ◌+◌, ◌-◌, List, Option, Some, IsSome, ◌≡◌, ◌<◌, ◌∙◌, ap, get_or, length, refl, subst, sym}
use Rattle.std.proofs.lemmas.List.{length-map}
use Rattle.std.specs.Option.{option_map}
use Rattle.spur_addr.specs.Address.{page_of}
use Rattle.spur_cache.specs.declared.line.Line.{Line}
use Rattle.spur_cache.specs.Lines.{line_at, page_lines_from}
use Rattle.spur_snoop.specs.Protocol.{is_alive}
use Rattle.spur_bus.specs.Calls.{HasLine}
use Rattle.spur_bus.proofs.BoardFacts.{lines_here}
use Rattle.spur_bus.proofs.LineFacts.{some_same}
use Rattle.spur_walk.specs.Tables.{block_address}
use Rattle.spur_pager.specs.Drops.{DropsBlock, IsLeavingBlock}
use Rattle.spur_pager.specs.View.{View, seen}
use Rattle.spur_pager.proofs.AheadFacts.{on_more, on_none, on_past, on_short}
use Rattle.spur_pager.proofs.EntryFacts.{page_again}
use Rattle.spur_pager.proofs.FlushingFacts.{MayFlush, line_gone, may_still, next_line, one_more}
use Rattle.spur_bus.proofs.LensFacts.{only_lines-same, only_lines-then}
use Rattle.spur_pager.proofs.flush.flush_some.Goals as goal

-- the address is that of the line's block
at_next : (lines now : List (Option Line)) (number : ℕ) (line : Line) (at : ℕ) → lines ≡ now → line_at lines number ≡ Some line
    → option_map (λ (l : Line). block_address l.tag) (line_at now number) ≡ Some at → at ≡ block_address line.tag
at_next lines now number line at same there told =
    some_same at (block_address line.tag)
    (sym told ∙ ap (λ (ls : List (Option Line)). option_map (λ (l : Line). block_address l.tag) (line_at ls number)) (sym same) ∙ ap (option_map (λ (l : Line). block_address l.tag)) there)

one_less : (n : ℕ) → n ≢ 0 → n - 1 + 1 ≡ n
one_less n some = omega arith

pub loop-number-init : goal.loop-number-init
loop-number-init g c =
    let lines_of = g.T.HasCache.lens.lines_of in
    let w : View = seen g.B.Backing.meaning g.T.HasCache.lens c.args.boards.now c.args.store.now in
    let lines : List (Option Line) = c.cache.result.now in
    let here = lines_here lines_of c.args.boards.now c.args.holder c.index-boards-holder.result c.requires.holder ∙ sym c.cache.ensures.lines in
    let page = sym (ap page_of c.page_address.ensures ∙ page_again c.args.page) in
    record {
      own = c.requires.own;
      holder = c.requires.holder;
      flushing = on_none c.args.b c.args.page c.args.most w;
      before = c.requires.before;
      places = ap (page_lines_from c.args.page 0) here ∙ ap (λ (p : ℕ). page_lines_from p 0 lines) page ∙ sym c.lines_of_page-numbers.ensures ∙ sym c.into_iter-number-iterator.ensures.into_iter_gives.0;
      frames = refl;
      backing = refl;
      lens = only_lines-same g.T.HasCache.lens g.met.T.HasCache.lawful c.args.boards.now;
    }

pub block_at-at-requires : goal.block_at-at-requires
block_at-at-requires g c =
    let w : View = seen g.B.Backing.meaning g.T.HasCache.lens c.args.boards.now c.args.store.now in
    let u : View = seen g.B.Backing.meaning g.T.HasCache.lens c.loop-number.boards c.loop-number.store in
    let may : MayFlush c.args.page u = may_still c.args.b c.args.page w u (record { stands = c.requires.stands; leaving = c.requires.leaving; room = c.requires.room }) c.loop-number.invariant.flushing.flushing in
    let within : c.args.holder < length u.caches = subst (λ (n : ℕ). c.args.holder < n) (sym (length-map c.loop-number.boards g.T.HasCache.lens.lines_of)) c.loop-number.invariant.holder in
    let next = next_line c.args.page c.args.holder u c.in-Some.number c.next.new.self may within c.loop-number.invariant.before (c.loop-number.invariant.places ∙ c.in-Some.ensures.steps) in
    let same = lines_here g.T.HasCache.lens.lines_of c.loop-number.boards c.args.holder c.index-boards-holder-in-loop-number.result c.loop-number.invariant.holder ∙ sym c.cache-in-loop-number.ensures.lines in
    subst (λ (ls : List (Option Line)). IsSome (line_at ls c.in-Some.number)) same (subst IsSome (sym next.there) refl)

pub flush_block-requires-clause-stands : goal.flush_block-requires-clause-stands
flush_block-requires-clause-stands g c =
    let w : View = seen g.B.Backing.meaning g.T.HasCache.lens c.args.boards.now c.args.store.now in
    let u : View = seen g.B.Backing.meaning g.T.HasCache.lens c.loop-number.boards c.loop-number.store in
    let may : MayFlush c.args.page u = may_still c.args.b c.args.page w u (record { stands = c.requires.stands; leaving = c.requires.leaving; room = c.requires.room }) c.loop-number.invariant.flushing.flushing in
    may.stands

pub flush_block-requires-clause-there : goal.flush_block-requires-clause-there
flush_block-requires-clause-there g c =
    let w : View = seen g.B.Backing.meaning g.T.HasCache.lens c.args.boards.now c.args.store.now in
    let u : View = seen g.B.Backing.meaning g.T.HasCache.lens c.loop-number.boards c.loop-number.store in
    let may : MayFlush c.args.page u = may_still c.args.b c.args.page w u (record { stands = c.requires.stands; leaving = c.requires.leaving; room = c.requires.room }) c.loop-number.invariant.flushing.flushing in
    let within : c.args.holder < length u.caches = subst (λ (n : ℕ). c.args.holder < n) (sym (length-map c.loop-number.boards g.T.HasCache.lens.lines_of)) c.loop-number.invariant.holder in
    let next = next_line c.args.page c.args.holder u c.in-Some.number c.next.new.self may within c.loop-number.invariant.before (c.loop-number.invariant.places ∙ c.in-Some.ensures.steps) in
    let same = lines_here g.T.HasCache.lens.lines_of c.loop-number.boards c.args.holder c.index-boards-holder-in-loop-number.result c.loop-number.invariant.holder ∙ sym c.cache-in-loop-number.ensures.lines in
    let at_is = at_next (get_or u.caches c.args.holder []) c.cache-in-loop-number.result.now c.in-Some.number next.first.line c.block_at-at.result same next.there c.block_at-at.ensures in
    subst (λ (at : ℕ). HasLine u.caches c.args.holder at is_alive) (sym at_is) next.has

pub flush_block-requires-clause-leaving : goal.flush_block-requires-clause-leaving
flush_block-requires-clause-leaving g c =
    let w : View = seen g.B.Backing.meaning g.T.HasCache.lens c.args.boards.now c.args.store.now in
    let u : View = seen g.B.Backing.meaning g.T.HasCache.lens c.loop-number.boards c.loop-number.store in
    let may : MayFlush c.args.page u = may_still c.args.b c.args.page w u (record { stands = c.requires.stands; leaving = c.requires.leaving; room = c.requires.room }) c.loop-number.invariant.flushing.flushing in
    let within : c.args.holder < length u.caches = subst (λ (n : ℕ). c.args.holder < n) (sym (length-map c.loop-number.boards g.T.HasCache.lens.lines_of)) c.loop-number.invariant.holder in
    let next = next_line c.args.page c.args.holder u c.in-Some.number c.next.new.self may within c.loop-number.invariant.before (c.loop-number.invariant.places ∙ c.in-Some.ensures.steps) in
    let same = lines_here g.T.HasCache.lens.lines_of c.loop-number.boards c.args.holder c.index-boards-holder-in-loop-number.result c.loop-number.invariant.holder ∙ sym c.cache-in-loop-number.ensures.lines in
    let at_is = at_next (get_or u.caches c.args.holder []) c.cache-in-loop-number.result.now c.in-Some.number next.first.line c.block_at-at.result same next.there c.block_at-at.ensures in
    subst (λ (at : ℕ). IsLeavingBlock u at) (sym at_is) next.leaving

pub flush_block-requires-clause-room : goal.flush_block-requires-clause-room
flush_block-requires-clause-room g c =
    let w : View = seen g.B.Backing.meaning g.T.HasCache.lens c.args.boards.now c.args.store.now in
    let u : View = seen g.B.Backing.meaning g.T.HasCache.lens c.loop-number.boards c.loop-number.store in
    let may : MayFlush c.args.page u = may_still c.args.b c.args.page w u (record { stands = c.requires.stands; leaving = c.requires.leaving; room = c.requires.room }) c.loop-number.invariant.flushing.flushing in
    let within : c.args.holder < length u.caches = subst (λ (n : ℕ). c.args.holder < n) (sym (length-map c.loop-number.boards g.T.HasCache.lens.lines_of)) c.loop-number.invariant.holder in
    let next = next_line c.args.page c.args.holder u c.in-Some.number c.next.new.self may within c.loop-number.invariant.before (c.loop-number.invariant.places ∙ c.in-Some.ensures.steps) in
    next.room

pub loop-number-preserved : goal.loop-number-preserved
loop-number-preserved g c =
    let w : View = seen g.B.Backing.meaning g.T.HasCache.lens c.args.boards.now c.args.store.now in
    let u : View = seen g.B.Backing.meaning g.T.HasCache.lens c.loop-number.boards c.loop-number.store in
    let v : View = seen g.B.Backing.meaning g.T.HasCache.lens c.flush_block.new.boards c.flush_block.new.store in
    let may : MayFlush c.args.page u = may_still c.args.b c.args.page w u (record { stands = c.requires.stands; leaving = c.requires.leaving; room = c.requires.room }) c.loop-number.invariant.flushing.flushing in
    let within : c.args.holder < length u.caches = subst (λ (n : ℕ). c.args.holder < n) (sym (length-map c.loop-number.boards g.T.HasCache.lens.lines_of)) c.loop-number.invariant.holder in
    let next = next_line c.args.page c.args.holder u c.in-Some.number c.next.new.self may within c.loop-number.invariant.before (c.loop-number.invariant.places ∙ c.in-Some.ensures.steps) in
    let same = lines_here g.T.HasCache.lens.lines_of c.loop-number.boards c.args.holder c.index-boards-holder-in-loop-number.result c.loop-number.invariant.holder ∙ sym c.cache-in-loop-number.ensures.lines in
    let at_is = at_next (get_or u.caches c.args.holder []) c.cache-in-loop-number.result.now c.in-Some.number next.first.line c.block_at-at.result same next.there c.block_at-at.ensures in
    let gone = line_gone c.args.b c.args.page c.args.holder u v c.in-Some.number c.next.new.self within c.loop-number.invariant.before next
    (subst (λ (at : ℕ). DropsBlock c.args.b c.args.holder at u v) at_is c.flush_block.ensures.drops) in
    record {
      own = subst (λ (n : ℕ). c.args.b < n) (sym c.flush_block.auto.boards) c.loop-number.invariant.own;
      holder = subst (λ (n : ℕ). c.args.holder < n) (sym c.flush_block.auto.boards) c.loop-number.invariant.holder;
      flushing = on_more c.args.b c.args.page c.args.holder c.args.most c.loop-number.left (c.loop-number.left - 1) w u v c.in-Some.number c.next.new.self c.loop-number.invariant.flushing next (subst (λ (at : ℕ). DropsBlock c.args.b c.args.holder at u v) at_is c.flush_block.ensures.drops) gone (one_less c.loop-number.left c.if-left-eq0.false);
      before = gone.before;
      places = gone.left;
      frames = c.flush_block.ensures.frames ∙ c.loop-number.invariant.frames;
      backing = c.flush_block.ensures.backing ∙ c.loop-number.invariant.backing;
      lens = only_lines-then g.T.HasCache.lens g.met.T.HasCache.lawful c.args.boards.now c.loop-number.boards c.flush_block.new.boards c.loop-number.invariant.lens c.flush_block.ensures.lens;
    }

pub returns-then-left-eq0-clause-flushes : goal.returns-then-left-eq0-clause-flushes
returns-then-left-eq0-clause-flushes g c =
    let w : View = seen g.B.Backing.meaning g.T.HasCache.lens c.args.boards.now c.args.store.now in
    let u : View = seen g.B.Backing.meaning g.T.HasCache.lens c.loop-number.boards c.loop-number.store in
    let may : MayFlush c.args.page u = may_still c.args.b c.args.page w u (record { stands = c.requires.stands; leaving = c.requires.leaving; room = c.requires.room }) c.loop-number.invariant.flushing.flushing in
    let within : c.args.holder < length u.caches = subst (λ (n : ℕ). c.args.holder < n) (sym (length-map c.loop-number.boards g.T.HasCache.lens.lines_of)) c.loop-number.invariant.holder in
    let next = next_line c.args.page c.args.holder u c.in-Some.number c.next.new.self may within c.loop-number.invariant.before (c.loop-number.invariant.places ∙ c.in-Some.ensures.steps) in
    on_short c.args.b c.args.page c.args.most (c.args.holder + 1) c.loop-number.left w u c.loop-number.invariant.flushing c.if-left-eq0.true next.more

pub returns-clause-flushes : goal.returns-clause-flushes
returns-clause-flushes g c =
    let w : View = seen g.B.Backing.meaning g.T.HasCache.lens c.args.boards.now c.args.store.now in
    let u : View = seen g.B.Backing.meaning g.T.HasCache.lens c.loop-number.boards c.loop-number.store in
    on_past c.args.b c.args.page c.args.most (c.args.holder + 1) c.loop-number.left w u c.loop-number.invariant.flushing
    (one_more c.args.page c.args.holder u.caches c.loop-number.invariant.before (c.loop-number.invariant.places ∙ c.in-None.ensures.steps.0))
