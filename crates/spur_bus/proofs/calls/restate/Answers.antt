use Rattle.std.proofs.Common.{get_or}
use Rattle.spur_cache.specs.Lines.{with_state}
use Rattle.spur_bus.proofs.BoardFacts.{restated_caches, tells}
use Rattle.spur_bus.proofs.calls.restate.Goals as goal

pub returns : goal.returns
returns g c =
    let lens = g.T.HasCache.lens in
    let lawful = g.met.T.HasCache.lawful in
    let own = c.index-boards-own.result in
    let told = tells lens lawful c.args.own c.args.at c.args.kind c.args.boards.now c.tell_others.new.boards own c.set_line_state.new.self (with_state (lens.lines_of (get_or c.args.boards.now c.args.own own)) c.args.at c.args.state) c.requires.own
    c.set_line_state.ensures c.tell_others.ensures.change c.tell_others.ensures.lens in
    record {
      change = restated_caches lens lawful c.args.own c.args.at c.args.kind c.args.state c.args.boards.now c.tell_others.new.boards own c.requires.own c.requires.valid c.requires.there told;
      lens = told.only;
    }
