use Rattle.std.proofs.Common.{rules, ◌<◌, subst, sym, ℕ}
use Rattle.std.proofs.lemmas.List.{length-map}
use Rattle.spur_cache.specs.Lens.{caches}
use Rattle.spur_bus.specs.Boards.{line_of_block}
use Rattle.spur_bus.proofs.DropFacts.{dropped_all, flushed_size, tags-dropped}
use Rattle.spur_bus.proofs.calls.block_flush.Goals as goal

pub returns : goal.returns
returns g c =
    let lens = g.T.HasCache.lens in
    let olds = caches lens c.args.boards.now in
    let news = caches lens c.drop_block.new.boards in
    let there = c.requires.there in
    let within = subst (λ (n : ℕ). c.args.holder < n) (sym (length-map c.args.boards.now lens.lines_of)) c.requires.holder in
    let all = dropped_all olds news c.args.holder c.args.at there.line c.args.phys.now c.save_owned.new.phys c.requires.agree c.requires.serves within there.there c.save_owned.ensures
    c.drop_block.ensures.change in
    record {
      entry = search rules;
      memory = c.save_owned.ensures;
      size = flushed_size c.args.phys.now c.save_owned.new.phys c.args.at (line_of_block olds c.args.holder c.args.at) c.save_owned.ensures;
      change = c.drop_block.ensures.change;
      lens = c.drop_block.ensures.lens;
      agree = all.agree;
      serves = all.keeps.serves;
      logical = all.keeps.logical;
      lines = all.lines;
      tags = λ F. tags-dropped olds news c.args.holder c.args.at c.block_start.result there.line within there.there c.block_start.ensures.value c.drop_block.ensures.change;
    }
