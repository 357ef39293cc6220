use Rattle.std.proofs.Common.{[], ℕ, List, Option, ◌≡◌, ◌<◌, ◌∙◌, ap, get_or, length, subst, sym, arith}
use Rattle.std.proofs.lemmas.List.{length-map}
use Rattle.spur_cache.specs.declared.line.Line.{Line}
use Rattle.spur_cache.specs.Lens.{caches}
use Rattle.spur_bus.proofs.BoardFacts.{lines_here}
use Rattle.spur_bus.proofs.LensFacts.{only_lines-same, only_lines-then}
use Rattle.spur_core.proofs.FlushFacts.{emptied_cache, same_count, still_same, still_then}
use Rattle.spur_core.proofs.finish.flush_cache.Goals as goal

pub loop-number-init : goal.loop-number-init
loop-number-init g c =
    let olds : List (List (Option Line)) = caches g.T.HasCache.lens c.args.boards.now in
    let within : c.args.holder < length olds = subst (λ (n : ℕ). c.args.holder < n) (sym (length-map c.args.boards.now g.T.HasCache.lens.lines_of)) c.requires.holder in
    let same : get_or olds c.args.holder [] ≡ c.cache.result.now = lines_here g.T.HasCache.lens.lines_of c.args.boards.now c.args.holder c.index-boards-holder.result c.requires.holder ∙ sym c.cache.ensures.lines in
    record {
      still = still_same olds c.args.phys.now c.requires.agree c.requires.serves;
      count = c.lines-count.ensures.value ∙ ap (λ (ls : List (Option Line)). length ls) (sym same) ∙ same_count olds c.args.holder within c.requires.agree;
      empty = c.requires.before;
      lens = only_lines-same g.T.HasCache.lens g.met.T.HasCache.lawful c.args.boards.now;
    }

pub loop-number-preserved : goal.loop-number-preserved
loop-number-preserved g c = record {
  still = still_then _ _ _ _ _ _ c.loop-number.invariant.still c.flush_line.ensures.agree;
  count = c.loop-number.invariant.count ∙ sym c.flush_line.ensures.agree.lines;
  empty = c.flush_line.ensures.empty;
  lens = only_lines-then g.T.HasCache.lens g.met.T.HasCache.lawful c.args.boards.now c.loop-number.boards c.flush_line.new.boards c.loop-number.invariant.lens c.flush_line.ensures.lens;
}

pub returns-clause-empty : goal.returns-clause-empty
returns-clause-empty g c =
    let olds : List (List (Option Line)) = caches g.T.HasCache.lens c.args.boards.now in
    let within : c.args.holder < length olds = subst (λ (n : ℕ). c.args.holder < n) (sym (length-map c.args.boards.now g.T.HasCache.lens.lines_of)) c.requires.holder in
    let now : List (List (Option Line)) = caches g.T.HasCache.lens c.loop-number.boards in
    let inside : c.args.holder < length now = subst (λ (n : ℕ). c.args.holder < n) (sym c.loop-number.invariant.still.count) within in
    let size = same_count now c.args.holder inside c.loop-number.invariant.still.agree in
    let count = c.loop-number.invariant.count in
    let past = c.loop-number-test.false in
    emptied_cache now c.args.holder c.loop-number.number inside (omega arith) c.loop-number.invariant.empty
