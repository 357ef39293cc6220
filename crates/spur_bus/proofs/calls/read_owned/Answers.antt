use Rattle.std.proofs.Common.{rules, ◌<◌, ap, subst, sym, ℕ}
use Rattle.std.proofs.lemmas.List.{length-map}
use Rattle.spur_cache.specs.Lens.{caches}
use Rattle.spur_snoop.specs.declared.Need.TheVariants.{Write}
use Rattle.spur_bus.specs.Calls.{words_of}
use Rattle.spur_bus.proofs.ReadFacts.{read_done}
use Rattle.spur_bus.proofs.calls.read_owned.Goals as goal

pub returns : goal.returns
returns g c =
    let lens = g.T.HasCache.lens in
    let within = subst (λ (n : ℕ). c.args.b < n) (sym (length-map c.args.boards.now lens.lines_of)) c.requires.own in
    let done = read_done Write (caches lens c.args.boards.now) (caches lens c.fill.new.boards) c.args.phys.now c.args.b c.args.at c.args.place c.read_words-words.result c.new_line-line.result
    within c.requires.agree c.requires.serves c.requires.may c.read_words-words.ensures c.new_line-line.ensures.value c.new_line-line.ensures.small c.fill.ensures.change in
    record {
      entry = search rules;
      change = done.change;
      lens = c.fill.ensures.lens;
      agree = done.all.keeps.agree;
      serves = done.all.keeps.keeps.serves;
      logical = done.all.keeps.keeps.logical;
      words = ap words_of done.all.there;
      lines = done.all.keeps.lines;
      tags = λ F gives. done.tags F c.args.layer c.block_start.result c.block_start.ensures.value gives;
    }
