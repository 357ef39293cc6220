use Rattle.std.proofs.Common.{List, Option, arith}
use Rattle.std.proofs.lemmas.List.{length-map}
use Rattle.spur_cache.specs.declared.line.Line.{Line}
use Rattle.spur_cache.specs.Lens.{caches}
use Rattle.spur_bus.proofs.LensFacts.{only_lines-same, only_lines-then}
use Rattle.spur_core.proofs.FlushFacts.{emptied_start, flushed_caches, flushed_memory, still_same, still_then}
use Rattle.spur_core.proofs.finish.flush_all.Goals as goal

pub loop-holder-init : goal.loop-holder-init
loop-holder-init g c =
    let olds : List (List (Option Line)) = caches g.T.HasCache.lens c.args.boards.now in
    record {
      still = still_same olds c.args.phys.now c.requires.agree c.requires.serves;
      empty = emptied_start olds;
      lens = only_lines-same g.T.HasCache.lens g.met.T.HasCache.lawful c.args.boards.now;
    }

pub loop-holder-preserved : goal.loop-holder-preserved
loop-holder-preserved g c = record {
  still = still_then _ _ _ _ _ _ c.loop-holder.invariant.still c.flush_cache.ensures.agree;
  empty = c.flush_cache.ensures.empty;
  lens = only_lines-then g.T.HasCache.lens g.met.T.HasCache.lawful c.args.boards.now c.loop-holder.boards c.flush_cache.new.boards c.loop-holder.invariant.lens c.flush_cache.ensures.lens;
}

pub returns-clause-memory : goal.returns-clause-memory
returns-clause-memory g c =
    let olds : List (List (Option Line)) = caches g.T.HasCache.lens c.args.boards.now in
    let count = length-map c.args.boards.now g.T.HasCache.lens.lines_of in
    let few = c.requires.agree.few_caches in
    let kept = c.loop-holder.auto.boards in
    let past = c.loop-holder-test.false in
    flushed_memory olds (caches g.T.HasCache.lens c.loop-holder.boards) c.args.phys.now c.loop-holder.phys c.loop-holder.holder (omega arith) c.loop-holder.invariant.still c.loop-holder.invariant.empty

pub returns-clause-empty : goal.returns-clause-empty
returns-clause-empty g c =
    let olds : List (List (Option Line)) = caches g.T.HasCache.lens c.args.boards.now in
    let count = length-map c.args.boards.now g.T.HasCache.lens.lines_of in
    let few = c.requires.agree.few_caches in
    let kept = c.loop-holder.auto.boards in
    let past = c.loop-holder-test.false in
    flushed_caches olds (caches g.T.HasCache.lens c.loop-holder.boards) c.args.phys.now c.loop-holder.phys c.loop-holder.holder (omega arith) c.requires.agree c.loop-holder.invariant.still c.loop-holder.invariant.empty
