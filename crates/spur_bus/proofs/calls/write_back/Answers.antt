use Rattle.std.proofs.Common.{rules, ◌<◌, subst, sym, ℕ}
use Rattle.std.proofs.lemmas.List.{length-map}
use Rattle.spur_cache.specs.Lens.{caches}
use Rattle.spur_snoop.specs.declared.BlockState.TheVariants as state_is
use Rattle.spur_snoop.specs.declared.BusKind.TheVariants as bus
use Rattle.spur_bus.specs.Boards.{line_of_block}
use Rattle.spur_bus.proofs.BoardFacts.{restated_is}
use Rattle.spur_bus.proofs.CallFacts.{restate_tags}
use Rattle.spur_bus.proofs.BackFacts.{back_all, back_size}
use Rattle.spur_bus.proofs.calls.write_back.Goals as goal

pub returns : goal.returns
returns g c =
    let lens = g.T.HasCache.lens in
    let olds = caches lens c.args.boards.now in
    let news = caches lens c.restate.new.boards in
    let there = c.requires.there in
    let within = subst (λ (n : ℕ). c.args.b < n) (sym (length-map c.args.boards.now lens.lines_of)) c.requires.own in
    let turns = restated_is olds news c.args.b c.args.at bus.WriteBack state_is.UnOwned there.line c.restate.ensures.change there.there in
    let all = back_all olds news c.args.phys.now c.save.new.phys c.args.b c.args.at there c.requires.agree c.requires.serves within turns c.save.ensures in
    record {
      entry = search rules;
      memory = c.save.ensures;
      size = back_size c.args.phys.now c.save.new.phys c.args.at (line_of_block olds c.args.b c.args.at) c.save.ensures;
      change = c.restate.ensures.change;
      lens = c.restate.ensures.lens;
      agree = all.agree;
      serves = all.keeps.serves;
      logical = all.keeps.logical;
      lines = all.lines;
      tags = λ F. restate_tags olds news c.args.b c.args.at c.block_start.result bus.WriteBack state_is.UnOwned there.line within there.there c.block_start.ensures.value turns;
    }
