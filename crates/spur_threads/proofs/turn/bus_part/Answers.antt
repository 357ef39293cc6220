use Rattle.std.proofs.Common.{◌≡◌, List, subst, sym, ap}
use Rattle.spur_board.specs.declared.board.Board.{Board}
use Rattle.spur_threads.specs.Turns.{OthersRest}
use Rattle.spur_threads.proofs.TurnFacts.{bus_others, on_either, others_same}
use Rattle.spur_threads.proofs.turn.bus_part.Goals as goal

pub returns-clause-others : goal.returns-clause-others
returns-clause-others g c =
    let b = c.args.b in
    let olds : List (Board g.row.C.Denot) = c.args.all.places.items in
    let mids : List (Board g.row.C.Denot) = c.whole-world.result.boards.items in
    let news : List (Board g.row.C.Denot) = c.bus_turn-turn.new.self.boards.items in
    let start : mids ≡ olds = ap (λ w. w.boards.items) c.whole-world.ensures.whole in
    let first : OthersRest b olds mids = subst (λ (bs : List (Board g.row.C.Denot)). OthersRest b olds bs) (sym start) (others_same b olds) in
    let others : OthersRest b olds news =
    on_either c.bus_turn-turn.result
    (λ stay. bus_others b olds mids news first stay)
    (λ err. subst (λ (bs : List (Board g.row.C.Denot)). OthersRest b olds bs) (sym (ap (λ w. w.boards.items) err)) first)
    c.bus_turn-turn.ensures.others c.bus_turn-turn.ensures.err in
    subst (λ (bs : List (Board g.row.C.Denot)). OthersRest b olds bs) (sym (ap (λ v. v.items) c.part-bus.ensures.boards)) others
