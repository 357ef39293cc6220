use Rattle.std.proofs.Common.{rules, ◌∙◌, ◌<◌, ap, subst, sym, ℕ}
use Rattle.std.proofs.lemmas.List.{length-map}
use Rattle.spur_cache.specs.Lens.{caches}
use Rattle.spur_snoop.specs.declared.BlockState.TheVariants as state_is
use Rattle.spur_snoop.specs.declared.BusKind.TheVariants as bus
use Rattle.spur_bus.specs.Calls.{line_count}
use Rattle.spur_bus.proofs.BoardFacts.{restated_is}
use Rattle.spur_bus.proofs.CallFacts.{claim_agrees, claim_keeps, count-turned, restate_tags}
use Rattle.spur_bus.proofs.calls.claim.Goals as goal

pub returns : goal.returns
returns g c =
    let lens = g.T.HasCache.lens in
    let olds = caches lens c.args.boards.now in
    let news = caches lens c.restate.new.boards in
    let there = c.requires.there in
    let within = subst (λ (n : ℕ). c.args.b < n) (sym (length-map c.args.boards.now lens.lines_of)) c.requires.own in
    let turns = restated_is olds news c.args.b c.args.at bus.Claim state_is.OwnedExclusive there.line c.restate.ensures.change there.there in
    record {
      entry = search rules;
      change = c.restate.ensures.change;
      lens = c.restate.ensures.lens;
      agree = claim_agrees olds news c.args.b c.args.at there c.requires.agree within turns;
      words = claim_keeps olds news c.args.b c.args.at there c.requires.agree within turns;
      lines = ap line_count turns ∙ count-turned olds c.args.b c.args.at bus.Claim (record there.line { state = state_is.OwnedExclusive });
      tags = λ F. restate_tags olds news c.args.b c.args.at c.block_start.result bus.Claim state_is.OwnedExclusive there.line within there.there c.block_start.ensures.value turns;
    }
