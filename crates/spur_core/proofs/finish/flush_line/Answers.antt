use Rattle.std.proofs.Common.{[], ℕ, List, Option, ◌≡◌, ◌<◌, ◌∙◌, ap, get_or, length, refl, subst, sym}
use Rattle.std.proofs.lemmas.List.{length-map}
use Rattle.std.specs.Option.{option_map}
use Rattle.spur_cache.specs.declared.line.Line.{Line}
use Rattle.spur_cache.specs.Lens.{caches}
use Rattle.spur_cache.specs.Lines.{line_at}
use Rattle.spur_bus.proofs.BoardFacts.{lines_here}
use Rattle.spur_bus.proofs.LensFacts.{only_lines-same}
use Rattle.spur_walk.specs.Tables.{block_address}
use Rattle.spur_core.proofs.FlushFacts.{IsHere, emptied_one, is_here}
use Rattle.spur_core.proofs.finish.flush_line.Goals as goal

pub returns-then-is_none-clause-lens : goal.returns-then-is_none-clause-lens
returns-then-is_none-clause-lens g c = only_lines-same g.T.HasCache.lens g.met.T.HasCache.lawful c.args.boards.now

pub block_flush-requires-clause-there : goal.block_flush-requires-clause-there
block_flush-requires-clause-there g c =
    let lists : List (List (Option Line)) = caches g.T.HasCache.lens c.args.boards.now in
    let within : c.args.holder < length lists = subst (λ (n : ℕ). c.args.holder < n) (sym (length-map c.args.boards.now g.T.HasCache.lens.lines_of)) c.requires.holder in
    let same : get_or lists c.args.holder [] ≡ c.cache-cache.result.now = lines_here g.T.HasCache.lens.lines_of c.args.boards.now c.args.holder c.index-boards-holder.result c.requires.holder ∙ sym c.cache-cache.ensures.lines in
    let here : IsHere lists c.args.holder c.args.number c.block_at-at.result = is_here lists c.args.holder c.args.number c.block_at-at.result _ within c.requires.agree refl
    (ap (λ (ls : List (Option Line)). option_map (λ (l : Line). block_address l.tag) (line_at ls c.args.number)) same ∙ c.block_at-at.ensures) in
    here.has

pub returns-clause-empty : goal.returns-clause-empty
returns-clause-empty g c =
    let lists : List (List (Option Line)) = caches g.T.HasCache.lens c.args.boards.now in
    let within : c.args.holder < length lists = subst (λ (n : ℕ). c.args.holder < n) (sym (length-map c.args.boards.now g.T.HasCache.lens.lines_of)) c.requires.holder in
    let same : get_or lists c.args.holder [] ≡ c.cache-cache.result.now = lines_here g.T.HasCache.lens.lines_of c.args.boards.now c.args.holder c.index-boards-holder.result c.requires.holder ∙ sym c.cache-cache.ensures.lines in
    let here : IsHere lists c.args.holder c.args.number c.block_at-at.result = is_here lists c.args.holder c.args.number c.block_at-at.result _ within c.requires.agree refl
    (ap (λ (ls : List (Option Line)). option_map (λ (l : Line). block_address l.tag) (line_at ls c.args.number)) same ∙ c.block_at-at.ensures) in
    emptied_one lists (caches g.T.HasCache.lens c.block_flush.new.boards) c.args.holder c.args.number c.block_at-at.result within c.block_flush.ensures.change here c.requires.before
