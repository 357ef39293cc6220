use Rattle.std.proofs.Common.{List, subst, sym, ap}
use Rattle.spur_board.specs.declared.board.Board.{Board}
use Rattle.spur_threads.specs.Turns.{OthersRest}
use Rattle.spur_threads.proofs.TurnFacts.{bus_moves, bus_others, on_either, on_ok_then}
use Rattle.spur_threads.proofs.ends.whole_turn.Goals as goal

pub returns-in-NeedsBus-clause-others : goal.returns-in-NeedsBus-clause-others
returns-in-NeedsBus-clause-others g c =
    let b = c.args.b in
    let olds : List (Board g.row.C.Denot) = c.args.world.now.boards.items in
    let mids : List (Board g.row.C.Denot) = c.go_alone.new.world.boards.items in
    let news : List (Board g.row.C.Denot) = c.bus_turn.new.self.boards.items in
    let before : OthersRest b olds mids = c.in-NeedsBus.ensures.alone.others in
    on_either c.bus_turn.result
    (λ stay. bus_others b olds mids news before stay)
    (λ err. subst (λ (bs : List (Board g.row.C.Denot)). OthersRest b olds bs) (sym (ap (λ w. w.boards.items) err)) before)
    c.bus_turn.ensures.others c.bus_turn.ensures.err

pub returns-in-NeedsBus-clause-moved : goal.returns-in-NeedsBus-clause-moved
returns-in-NeedsBus-clause-moved g c =
    on_ok_then c.bus_turn.result
    (λ moved. bus_moves g.C.Cpu.meaning g.C.Cpu.state g.C.Cpu.room c.args.b c.args.world.now.boards.items c.go_alone.new.world.boards.items c.bus_turn.new.self.boards.items c.in-NeedsBus.ensures.alone.comes moved)
    c.bus_turn.ensures.moved
