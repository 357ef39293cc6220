use Rattle.std.proofs.Common.{suc, ◌≡◌, ◌+◌, ◌∙◌, ◌<◌, List, length, ap, arith, refl, ℕ, Some}
use Rattle.std.specs.Prelude.{slice_get}
use Rattle.std.proofs.Math.ListN.{drop}
use Rattle.std.proofs.lemmas.Option.{slice_get_read}
use Rattle.spur_board.specs.declared.board.Board.{Board}
use Rattle.spur_sched.specs.Picks.{are_out, running_from}
use Rattle.spur_sched.proofs.PickFacts.{step_in, step_out}
use Rattle.spur_sched.proofs.picking.count_running.Goals.{else-is_none, then-is_none}
use Rattle.spur_sched.proofs.picking.count_running.Goals as goal

pub loop-board-preserved : goal.loop-board-preserved
loop-board-preserved g c =
    let bs : List (Board g.row.C.Denot) = c.args.boards.now in
    let i : ℕ = c.loop-board.board-index in
    let b : Board g.row.C.Denot = c.board-item.result in
    let within : i < length bs = c.loop-board-test.true in
    let there : slice_get bs i ≡ Some b = slice_get_read _ _ _ _ refl within c.board-item.is in
    let counted = c.loop-board.invariant.counted in
    let few = c.loop-board.invariant.few in
    elim c.if-is_none.branch [
      | then-is_none w ↦
          (let one : length (running_from i (drop i (are_out bs))) ≡ length (running_from (i + 1) (drop (i + 1) (are_out bs))) + 1 = ap (λ (l : List ℕ). length l) (step_in bs i b there w.if-is_none.ensures) ∙ (let r : suc (length (running_from (i + 1) (drop (i + 1) (are_out bs)))) ≡ length (running_from (i + 1) (drop (i + 1) (are_out bs))) + 1 = omega arith in r) in
          let is = w.running-is in
          record { counted = omega arith; few = omega arith })
      | else-is_none w ↦
          (let one : length (running_from i (drop i (are_out bs))) ≡ length (running_from (i + 1) (drop (i + 1) (are_out bs))) = ap (λ (l : List ℕ). length l) (step_out bs i b there w.if-is_none.ensures) in
          let is = w.running-is in
          record { counted = omega arith; few = omega arith })
    ]
