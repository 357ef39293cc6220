use Rattle.std.proofs.Common.{◌<◌, ◌∙◌, ℕ, ap, get_or, map, refl, slice_set, subst, sym, List, Option}
use Rattle.std.specs.Prelude.{IsSome, IsTrue}
use Rattle.std.proofs.lemmas.List.{length-map}
use Rattle.spur_addr.specs.Address.{entry_address_of}
use Rattle.spur_addr.specs.PageEntry.{is_readable}
use Rattle.spur_cache.specs.declared.line.Line.{Line}
use Rattle.spur_cache.specs.Lines.{found, with_word, word_in}
use Rattle.spur_bus.proofs.BoardFacts.{lines_here}
use Rattle.spur_walk.proofs.TableFacts.{entry_readable}
use Rattle.spur_flat.specs.declared.flat.Flat.{Flat}
use Rattle.spur_flat.specs.Pager.{word_of}
use Rattle.spur_walk.specs.Tables.{logical_flat}
use Rattle.spur_walk.proofs.StepFacts.{same_flat}
use Rattle.spur_pager.specs.declared.change.Change.{Change}
use Rattle.spur_pager.specs.Changes.{changed_word, clock_change, entry_for}
use Rattle.spur_pager.proofs.ChangeFacts.{all_changed, ready_there, ready_word, room_left, written_boards}
use Rattle.spur_bus.proofs.LensFacts.{only_lines-then, only_lines-set}
use Rattle.spur_pager.proofs.entry.tick.Goals as goal

pub entry_here-entry-requires-clause-there : goal.entry_here-entry-requires-clause-there
entry_here-entry-requires-clause-there g c =
    let lines_of = g.T.HasCache.lens.lines_of in
    let here = subst (λ (n : ℕ). c.args.b < n) (sym c.fetch.auto.boards) c.requires.own in
    let own = lines_here lines_of c.fetch.new.boards c.args.b c.index-boards-b.result here ∙ sym c.cache.ensures.lines in
    subst (λ (ls : List (Option Line)). IsSome (found ls (entry_address_of c.args.page))) own
    (ready_there (map lines_of c.fetch.new.boards) c.fetch.new.phys c.args.b c.args.page c.fetch.ensures.fetches.fetch.ready)

pub entry_here-entry-requires-clause-readable : goal.entry_here-entry-requires-clause-readable
entry_here-entry-requires-clause-readable g c =
    let lines_of = g.T.HasCache.lens.lines_of in
    let here = subst (λ (n : ℕ). c.args.b < n) (sym c.fetch.auto.boards) c.requires.own in
    let within = subst (λ (n : ℕ). c.args.b < n) (sym (length-map c.fetch.new.boards lines_of)) here in
    let own = lines_here lines_of c.fetch.new.boards c.args.b c.index-boards-b.result here ∙ sym c.cache.ensures.lines in
    let at = entry_address_of c.args.page in
    subst (λ (ls : List (Option Line)). IsTrue (is_readable (word_in (found ls at) at))) own
    (entry_readable (map lines_of c.fetch.new.boards) c.fetch.new.phys c.args.b c.args.page c.fetch.ensures.fetches.leads.walk within c.requires.user)

pub set_line_word-requires : goal.set_line_word-requires
set_line_word-requires g c =
    let lines_of = g.T.HasCache.lens.lines_of in
    let here = subst (λ (n : ℕ). c.args.b < n) (sym c.fetch.auto.boards) c.requires.own in
    let own = lines_here lines_of c.fetch.new.boards c.args.b c.index-boards-b-2.result here in
    subst (λ (n : ℕ). IsSome (found (lines_of (get_or c.fetch.new.boards c.args.b c.index-boards-b-2.result)) n)) (sym c.pte_of.ensures.value)
    (subst (λ (ls : List (Option Line)). IsSome (found ls (entry_address_of c.args.page))) own
    (ready_there (map lines_of c.fetch.new.boards) c.fetch.new.phys c.args.b c.args.page c.fetch.ensures.fetches.fetch.ready))

pub append-requires : goal.append-requires
append-requires g c =
    room_left c.args.b c.args.page (record { caches = map g.T.HasCache.lens.lines_of c.args.boards.now; memory = c.args.phys.now }) (record { caches = map g.T.HasCache.lens.lines_of c.fetch.new.boards; memory = c.fetch.new.phys })
    c.args.history.now c.fetch.new.history c.requires.room c.fetch.ensures.fetches

pub returns-clause-changes : goal.returns-clause-changes
returns-clause-changes g c =
    let lines_of = g.T.HasCache.lens.lines_of in
    let news = c.fetch.new.boards in
    let at = entry_address_of c.args.page in
    let here = subst (λ (n : ℕ). c.args.b < n) (sym c.fetch.auto.boards) c.requires.own in
    let within = subst (λ (n : ℕ). c.args.b < n) (sym (length-map c.args.boards.now lines_of)) c.requires.own in
    let within_new = subst (λ (n : ℕ). c.args.b < n) (sym (length-map news lines_of)) here in
    let own = lines_here lines_of news c.args.b c.index-boards-b.result here ∙ sym c.cache.ensures.lines in
    let read = c.entry_here-entry.ensures ∙ ap (λ (ls : List (Option Line)). word_in (found ls at) at) (sym own)
    ∙ ready_word (map lines_of news) c.fetch.new.phys c.args.b c.args.page c.fetch.ensures.fetches.leads.walk within_new c.requires.user c.fetch.ensures.fetches.fetch.ready in
    let before = read ∙ ap (λ (F : Flat). word_of F c.args.page) (same_flat (map lines_of c.args.boards.now) (map lines_of news) c.args.phys.now c.fetch.new.phys c.fetch.ensures.fetches.leads.logical) in
    let change = c.clock_change-change.ensures.change ∙ ap clock_change before in
    let word = c.word.ensures.value ∙ c.changed.ensures ∙ ap (λ (k : Change). changed_word k c.entry_here-entry.result) change ∙ ap (changed_word (clock_change (word_of (logical_flat (map lines_of c.args.boards.now) c.args.phys.now) c.args.page))) read in
    let caches = written_boards lines_of g.T.HasCache.lens.with_lines g.met.T.HasCache.lawful.set news c.args.b c.args.page c.pte_of.result c.word.result c.index-boards-b-2.result c.set_line_word.new.self here c.pte_of.ensures.value c.set_line_word.ensures in
    all_changed c.args.b c.args.page (clock_change (word_of (logical_flat (map lines_of c.args.boards.now) c.args.phys.now) c.args.page)) (record { caches = map lines_of c.args.boards.now; memory = c.args.phys.now }) (record { caches = map lines_of news; memory = c.fetch.new.phys })
    (record { caches = map lines_of (slice_set news c.args.b c.set_line_word.new.self); memory = c.fetch.new.phys }) c.args.history.now c.fetch.new.history c.append.new.self c.word.result c.entry_for.result within c.requires.user
    c.requires.may c.fetch.ensures.fetches word caches refl (c.entry_for.ensures ∙ ap (λ (k : Change). entry_for k c.args.b c.args.page) change) c.append.ensures.entry c.append.ensures.room

pub returns-clause-lens : goal.returns-clause-lens
returns-clause-lens g c =
    let lines_of = g.T.HasCache.lens.lines_of in
    let with_lines = g.T.HasCache.lens.with_lines in
    let news = c.fetch.new.boards in
    let here = subst (λ (n : ℕ). c.args.b < n) (sym c.fetch.auto.boards) c.requires.own in
    let d = c.index-boards-b-2.result in
    only_lines-then g.T.HasCache.lens g.met.T.HasCache.lawful c.args.boards.now news (slice_set news c.args.b c.set_line_word.new.self) c.fetch.ensures.lens
    (only_lines-set g.T.HasCache.lens g.met.T.HasCache.lawful news c.args.b d c.set_line_word.new.self (with_word (lines_of (get_or news c.args.b d)) c.pte_of.result c.word.result) here c.set_line_word.ensures)

pub returns-clause-change : goal.returns-clause-change
returns-clause-change g c =
    let lines_of = g.T.HasCache.lens.lines_of in
    let news = c.fetch.new.boards in
    let at = entry_address_of c.args.page in
    let here = subst (λ (n : ℕ). c.args.b < n) (sym c.fetch.auto.boards) c.requires.own in
    let within_new = subst (λ (n : ℕ). c.args.b < n) (sym (length-map news lines_of)) here in
    let own = lines_here lines_of news c.args.b c.index-boards-b.result here ∙ sym c.cache.ensures.lines in
    let read = c.entry_here-entry.ensures ∙ ap (λ (ls : List (Option Line)). word_in (found ls at) at) (sym own)
    ∙ ready_word (map lines_of news) c.fetch.new.phys c.args.b c.args.page c.fetch.ensures.fetches.leads.walk within_new c.requires.user c.fetch.ensures.fetches.fetch.ready in
    let before = read ∙ ap (λ (F : Flat). word_of F c.args.page) (same_flat (map lines_of c.args.boards.now) (map lines_of news) c.args.phys.now c.fetch.new.phys c.fetch.ensures.fetches.leads.logical) in
    c.clock_change-change.ensures.change ∙ ap clock_change before
