use Rattle.std.proofs.Common.{ℕ, ◌≡◌, ◌++◌, ◌∷◌, ◌∙◌, [], List, ap, arith, get_or, length, subst, sym}
use Rattle.std.proofs.lemmas.List.{append_assoc, length-append}
use Rattle.std.proofs.lemmas.Option.{get_or_from_slice_get}
use Rattle.std.specs.Vec.Iter.{into_iter_items}
use Rattle.spur_board.specs.Boards.{IsNew}
use Rattle.spur_core.proofs.MakeFacts.{new_more}
use Rattle.spur_core.proofs.make.make_boards.Goals as goal

pub loop-cpu-preserved : goal.loop-cpu-preserved
loop-cpu-preserved g c =
    let done : List g.row.C.Denot = c.loop-cpu.yielded in
    let cpu : g.row.C.Denot = c.in-Some.cpu in
    let segs : List (List ℕ) = c.args.segs.now in
    let number : c.loop-cpu.number ≡ length done = c.loop-cpu.invariant.number in
    let more = length-append done (cpu ∷ []) in
    record {
      number = omega arith;
      left = c.loop-cpu.invariant.left ∙ ap (λ (xs : List g.row.C.Denot). done ++ xs) c.in-Some.ensures.steps.0 ∙ sym (append_assoc done (cpu ∷ []) (into_iter_items c.next.new.self));
      new = new_more segs c.args.lines c.args.budget done cpu c.loop-cpu.boards.items c.push.new.self.items c.in_ok-board.board c.loop-cpu.invariant.new
          (λ registers at.
          let same : get_or segs c.loop-cpu.number [] ≡ registers = ap (λ (n : ℕ). get_or segs n []) number ∙ get_or_from_slice_get segs (length done) registers [] at in
          subst (λ (z : ℕ × List ℕ). IsNew z.0 cpu z.1 c.args.lines c.args.budget c.in_ok-board.board) (λ k. (number k, same k)) c.in_ok-board.ensures)
          c.in_ok-push.ensures.items;
    }
