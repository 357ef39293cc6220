use Rattle.std.proofs.Common.{◌<◌, List, get_or, ℕ, length}
use Rattle.std.proofs.lemmas.Option.{slice_get-get_or}
use Rattle.spur_board.specs.declared.board.Board.{Board}
use Rattle.spur_sched.proofs.PickFacts.{picked_here, picked_next, picked_past}
use Rattle.spur_sched.proofs.picking.running_at.Goals.{else-is_none, then-is_none+else-left-eq0}
use Rattle.spur_sched.proofs.picking.running_at.Goals as goal

pub returns-then-left-eq0 : goal.returns-then-left-eq0
returns-then-left-eq0 g c =
    let bs : List (Board g.row.C.Denot) = c.args.boards.now in
    let i : ℕ = c.loop-i.i in
    let d = c.index-boards-i.result in
    let within : i < length bs = c.loop-i-test.true in
    picked_here bs i c.loop-i.left (get_or bs i d) _ (slice_get-get_or bs i d within) c.if-is_none.ensures c.if-left-eq0.true c.loop-i.invariant

pub loop-i-preserved : goal.loop-i-preserved
loop-i-preserved g c =
    let bs : List (Board g.row.C.Denot) = c.args.boards.now in
    let i : ℕ = c.loop-i.i in
    let d = c.index-boards-i.result in
    let within : i < length bs = c.loop-i-test.true in
    elim c.if-is_none.branch [
      | then-is_none+else-left-eq0 w ↦ picked_next bs i c.loop-i.left _ (get_or bs i d) _ (slice_get-get_or bs i d within) w.if-is_none.ensures w.if-left-eq0.false w.left-is c.loop-i.invariant
      | else-is_none w ↦ picked_past bs i c.loop-i.left _ (get_or bs i d) _ (slice_get-get_or bs i d within) w.if-is_none.ensures w.left-is c.loop-i.invariant
    ]
