use Rattle.spur_bus.proofs.BoardFacts.{dropped_caches}
use Rattle.spur_bus.proofs.LensFacts.{only_lines-set}
use Rattle.spur_bus.proofs.calls.drop_block.Goals as goal

pub returns : goal.returns
returns g c =
    let lens = g.T.HasCache.lens in
    let lawful = g.met.T.HasCache.lawful in
    let own = c.index-boards-holder.result in
    record {
      change = dropped_caches lens lawful c.args.holder c.args.at c.args.boards.now own c.set_line_state.new.self c.requires.own c.set_line_state.ensures;
      lens = only_lines-set lens lawful c.args.boards.now c.args.holder own c.set_line_state.new.self _ c.requires.own c.set_line_state.ensures;
    }
