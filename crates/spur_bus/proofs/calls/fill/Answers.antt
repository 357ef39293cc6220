use Rattle.std.proofs.Common.{◌∙◌, ap}
use Rattle.spur_cache.proofs.CacheFacts.{filled_valid}
use Rattle.spur_cache.specs.Lines.{with_line}
use Rattle.spur_bus.proofs.BoardFacts.{filled_caches, tells}
use Rattle.spur_bus.proofs.calls.fill.Goals as goal

pub returns : goal.returns
returns g c =
    let lens = g.T.HasCache.lens in
    let lawful = g.met.T.HasCache.lawful in
    let own = c.index-boards-own.result in
    let told = tells lens lawful c.args.own c.args.at c.args.kind c.args.boards.now c.tell_others.new.boards own c.fill_line.new.self (with_line _ c.args.line) c.requires.own
    (c.fill_line.ensures ∙ ap (lens.with_lines _) (filled_valid _ c.args.line c.requires.valid)) c.tell_others.ensures.change c.tell_others.ensures.lens in
    record { change = filled_caches lens lawful c.args.own c.args.at c.args.kind c.args.line c.args.boards.now c.tell_others.new.boards own c.requires.own told; lens = told.only }
