use Rattle.std.proofs.Common.{◌≡◌, ◌∙◌, ◌+◌, ◌-◌, List, ap, arith, length, refl, subst, sym, ℕ, Some, None}
use Rattle.std.proofs.lemmas.List.{length-append}
use Rattle.spur_flat.specs.declared.entry.Entry.{Entry}
use Rattle.spur_board.specs.declared.board.Board.{Board}
use Rattle.spur_core.specs.Boards.{LogsAreEmpty, whole}
use Rattle.spur_core.specs.World.{IsPrefix, start_of}
use Rattle.spur_sched.specs.Picks.{are_out, next_number, picked_board, running_boards}
use Rattle.spur_sched.specs.Shown.{stopped_entry}
use Rattle.spur_sched.proofs.PickFacts.{running_picked}
use Rattle.spur_sched.proofs.StepFacts.{emptied_by_stop, if_ok_all, if_ok_both, merged_prefix, merged_stands, on_either, on_err, on_err_both, on_ok_then, prefix_same, prefix_then, whole_empty}
use Rattle.spur_sched.proofs.ShowingFacts.{new_added, none_stopped, nothing_stops, showing_as, showing_long, showing_none, showing_over, showing_part, showing_prefix, showing_then, stop_below}
use Rattle.spur_sched.proofs.FollowFacts.{left_then, may_go_on, scheduled_all, scheduled_as, scheduled_none, scheduled_on, scheduled_stopped, scheduling_as}
use Rattle.spur_sched.proofs.run.run_schedule.Goals as goal

pub loop-world-init : goal.loop-world-init
loop-world-init g c = record {
  good = c.requires.good;
  empty = λ early. c.requires.empty;
  beginning = refl;
  scheduling = scheduling_as g.C.Cpu.meaning g.C.Cpu.state c.args.late c.args.start c.args.start c.args.start _ _ _ c.args.world.now.boards.items c.args.world.now.boards.items refl
      (whole_empty g.C.Cpu.meaning g.C.Cpu.state g.C.Cpu.room c.args.world.now.store c.args.world.now.boards.items c.requires.empty)
      (scheduled_none g.C.Cpu.meaning g.C.Cpu.state c.args.late c.args.start c.args.world.now.store.history.entries c.args.world.now.boards.items);
  showing = showing_none _ c.args.world.now.store.history.entries c.args.probes.now.items;
}

-- ---- where all boards have ended

pub end_run-requires-clause-first : goal.end_run-requires-clause-first
end_run-requires-clause-first g c =
    let first : length c.history-first.result.now ≡ length c.args.world.now.store.history.entries = ap length c.history-first.ensures in
    let long = showing_long _ _ _ _ _ c.loop-world.invariant.showing in
    omega arith

pub returns-in-None-clause-prefix : goal.returns-in-None-clause-prefix
returns-in-None-clause-prefix g c =
    let before : List Entry = c.args.world.now.store.history.entries in
    let w = c.loop-world.world in
    let new = c.end_run.new.world in
    let was : IsPrefix before w.store.history.entries = showing_prefix _ _ _ _ _ c.loop-world.invariant.showing in
    on_either c.end_run.result
    (λ merged. merged_prefix g.C.Cpu.meaning g.C.Cpu.state g.C.Cpu.room before w new was merged)
    (λ same. prefix_then _ _ _ was (prefix_same w.store.history.entries new.store.history.entries (ap (λ v. v.store.history.entries) same)))
    c.end_run.ensures.merged c.end_run.ensures.world

pub returns-in-None-clause-empty : goal.returns-in-None-clause-empty
returns-in-None-clause-empty g c =
    on_ok_then c.end_run.result (λ merged. (merged_stands g.C.Cpu.meaning g.C.Cpu.state g.C.Cpu.room c.loop-world.world c.end_run.new.world merged).empty) c.end_run.ensures.merged

pub returns-in-None-clause-shown_in_part : goal.returns-in-None-clause-shown_in_part
returns-in-None-clause-shown_in_part g c =
    let h : List Entry = c.loop-world.world.store.history.entries in
    let k : List Entry = c.end_run.new.world.store.history.entries in
    on_err_both c.end_run.result
    (λ same unshown. showing_part _ _ h k _ _ (showing_as _ _ _ _ _ _ (ap (λ v. v.items) unshown) c.loop-world.invariant.showing) (prefix_same h k (ap (λ v. v.store.history.entries) same)))
    c.end_run.ensures.world c.end_run.ensures.unshown

pub returns-in-None-clause-shown : goal.returns-in-None-clause-shown
returns-in-None-clause-shown g c =
    let before : List Entry = c.args.world.now.store.history.entries in
    let h : List Entry = c.loop-world.world.store.history.entries in
    let k : List Entry = c.end_run.new.world.store.history.entries in
    let first : length c.history-first.result.now ≡ length before = ap length c.history-first.ensures in
    let long = showing_long _ _ _ _ _ c.loop-world.invariant.showing in
    if_ok_all c.end_run.result
    (λ ran merged moved ended.
    showing_over _ before h k _ _ _ _ (length h - length c.history-first.result.now) _ ran c.loop-world.invariant.showing
    (merged_prefix g.C.Cpu.meaning g.C.Cpu.state g.C.Cpu.room h c.loop-world.world c.end_run.new.world (prefix_same h h refl) merged) refl moved refl (omega arith) ended)
    c.end_run.ensures.merged c.end_run.ensures.moved c.end_run.ensures.ended

pub returns-in-None-clause-followed : goal.returns-in-None-clause-followed
returns-in-None-clause-followed g c =
    let w = c.loop-world.world in
    let new = c.end_run.new.world in
    let bs : List (Board g.row.C.Denot) = w.boards.items in
    let x : ℕ = c.loop-world.state in
    let picked : picked_board (next_number x) (running_boards (are_out bs)) ≡ None = (λ k. picked_board (sym c.next-state.ensures k) (running_boards (are_out (sym c.deref.ensures.value k)))) ∙ sym c.pick.ensures ∙ c.in-None.is in
    let before : List Entry = c.args.world.now.store.history.entries in
    let was : IsPrefix before w.store.history.entries = showing_prefix _ _ _ _ _ c.loop-world.invariant.showing in
    if_ok_both c.end_run.result
    (λ ran merged ended.
    let same = merged_stands g.C.Cpu.meaning g.C.Cpu.state g.C.Cpu.room w new merged in
    let prefix : IsPrefix before new.store.history.entries = merged_prefix g.C.Cpu.meaning g.C.Cpu.state g.C.Cpu.room before w new was merged in
    scheduled_as g.C.Cpu.meaning g.C.Cpu.state c.args.start _ c.args.late (stopped_entry ran) before (whole w.store bs) new.store.history.entries c.args.world.now.boards.items bs new.boards.items merged.history same.runners
    (scheduled_all g.C.Cpu.meaning g.C.Cpu.state c.args.late c.args.start x c.args.world.now.beginning.opening.value.options.budget (stopped_entry ran) before (whole w.store bs) c.args.world.now.boards.items bs
    c.loop-world.invariant.scheduling (subst (IsPrefix before) merged.history prefix) picked
    (λ early. none_stopped _ _ ran
    (nothing_stops w.store.history.entries new.store.history.entries _ _ (merged.history ∙ whole_empty g.C.Cpu.meaning g.C.Cpu.state g.C.Cpu.room w.store bs (c.loop-world.invariant.empty early)) refl)
    ended)
    (λ i b e. (c.requires.good.programs.each i b e).budget)))
    c.end_run.ensures.merged c.end_run.ensures.ended

-- ---- a step

pub take_step-requires-clause-running : goal.take_step-requires-clause-running
take_step-requires-clause-running g c =
    let bs : List (Board g.row.C.Denot) = c.loop-world.world.boards.items in
    let x : ℕ = c.loop-world.state in
    let b : ℕ = c.in-Some.b in
    let picked : picked_board (next_number x) (running_boards (are_out bs)) ≡ Some b = (λ k. picked_board (sym c.next-state.ensures k) (running_boards (are_out (sym c.deref.ensures.value k)))) ∙ sym c.pick.ensures ∙ c.in-Some.is in
    running_picked bs (next_number x) b picked

pub loop-world-smaller : goal.loop-world-smaller
loop-world-smaller g c =
    let bs : List (Board g.row.C.Denot) = c.loop-world.world.boards.items in
    let x : ℕ = c.loop-world.state in
    let b : ℕ = c.in-Some.b in
    let picked : picked_board (next_number x) (running_boards (are_out bs)) ≡ Some b = (λ k. picked_board (sym c.next-state.ensures k) (running_boards (are_out (sym c.deref.ensures.value k)))) ∙ sym c.pick.ensures ∙ c.in-Some.is in
    left_then g.C.Cpu.meaning g.C.Cpu.state b _ _ bs c.take_step.new.world.boards.items c.in_ok-take_step-in-Some.ensures.instruction
    (may_go_on g.C.Cpu.meaning g.C.Cpu.state g.C.Cpu.room g.B.Backing.meaning (start_of g.C.Cpu.state g.B.Backing.meaning c.loop-world.world.beginning) c.loop-world.world.store b bs c.loop-world.invariant.good
    (running_picked bs (next_number x) b picked))

pub loop-world-preserved : goal.loop-world-preserved
loop-world-preserved g c =
    let bs : List (Board g.row.C.Denot) = c.loop-world.world.boards.items in
    let x : ℕ = c.loop-world.state in
    let b : ℕ = c.in-Some.b in
    let picked : picked_board (next_number x) (running_boards (are_out bs)) ≡ Some b = (λ k. picked_board (sym c.next-state.ensures k) (running_boards (are_out (sym c.deref.ensures.value k)))) ∙ sym c.pick.ensures ∙ c.in-Some.is in
    let may = may_go_on g.C.Cpu.meaning g.C.Cpu.state g.C.Cpu.room g.B.Backing.meaning (start_of g.C.Cpu.state g.B.Backing.meaning c.loop-world.world.beginning) c.loop-world.world.store b bs c.loop-world.invariant.good
    (running_picked bs (next_number x) b picked) in
    record {
      good = c.take_step.ensures.good;
      empty = c.in_ok-take_step-in-Some.ensures.empty;
      beginning = c.take_step.ensures.beginning ∙ c.loop-world.invariant.beginning;
      scheduling = scheduling_as g.C.Cpu.meaning g.C.Cpu.state c.args.late c.args.start (next_number x) c.next-state.result _ _ _ c.args.world.now.boards.items c.take_step.new.world.boards.items c.next-state.ensures refl
          (scheduled_on g.C.Cpu.meaning g.C.Cpu.state c.args.late c.args.start x b _ _ _ c.args.world.now.boards.items bs c.take_step.new.world.boards.items c.loop-world.invariant.scheduling picked
          c.in_ok-take_step-in-Some.ensures.instruction c.in_ok-take_step-in-Some.ensures.stepped may).now;
      showing = showing_then _ _ _ _ _ _ _ _ c.loop-world.invariant.showing c.take_step.ensures.prefix (new_added _ _ _ _ c.history-seen.ensures c.history.ensures) c.show_new.ensures.moved
          (sym c.show_new.ensures.stopped ∙ c.in_default.is);
    }

pub returns-in_err-take_step-in-Some-clause-prefix : goal.returns-in_err-take_step-in-Some-clause-prefix
returns-in_err-take_step-in-Some-clause-prefix g c = prefix_then _ _ _ (showing_prefix _ _ _ _ _ c.loop-world.invariant.showing) c.take_step.ensures.prefix

pub returns-in_err-take_step-in-Some-clause-shown_in_part : goal.returns-in_err-take_step-in-Some-clause-shown_in_part
returns-in_err-take_step-in-Some-clause-shown_in_part g c = on_err c.from_residual.result (showing_part _ _ _ _ _ _ c.loop-world.invariant.showing c.take_step.ensures.prefix)

-- ---- where a probe wishes a stop

pub ended_by-requires : goal.ended_by-requires
ended_by-requires g c =
    let h : List Entry = c.history-seen.result.now in
    let k : List Entry = c.history.result.now in
    let within = stop_below (length h) k _ c.in-Some-show_new.stop (sym c.show_new.ensures.stopped ∙ c.in-Some-show_new.is) in
    let few = c.history.type_inv.0 in
    record { few = omega arith }

pub returns-in-Some-show_new-clause-prefix : goal.returns-in-Some-show_new-clause-prefix
returns-in-Some-show_new-clause-prefix g c = prefix_then _ _ _ (showing_prefix _ _ _ _ _ c.loop-world.invariant.showing) c.take_step.ensures.prefix

pub returns-in-Some-show_new-clause-empty : goal.returns-in-Some-show_new-clause-empty
returns-in-Some-show_new-clause-empty g c =
    emptied_by_stop c.loop-world.world c.take_step.new.world _ _ c.in-Some-show_new.stop c.in_ok-take_step-in-Some.ensures.joined (new_added _ _ _ _ c.history-seen.ensures c.history.ensures)
    (sym c.show_new.ensures.stopped ∙ c.in-Some-show_new.is)

pub returns-in-Some-show_new-clause-shown : goal.returns-in-Some-show_new-clause-shown
returns-in-Some-show_new-clause-shown g c =
    let before : List Entry = c.args.world.now.store.history.entries in
    let h : List Entry = c.loop-world.world.store.history.entries in
    let k : List Entry = c.take_step.new.world.store.history.entries in
    let first : length c.history-first.result.now ≡ length before = ap length c.history-first.ensures in
    let seen : length c.history-seen.result.now ≡ length h = ap length c.history-seen.ensures in
    let long : length h ≡ length before + length c.loop-world.invariant.showing.entries = ap length c.loop-world.invariant.showing.history ∙ length-append before c.loop-world.invariant.showing.entries in
    showing_over _ before h k _ _ _ _ (length c.history-seen.result.now - length c.history-first.result.now) (Some c.in-Some-show_new.stop) c.ended_by.result c.loop-world.invariant.showing c.take_step.ensures.prefix
    (new_added _ _ _ _ c.history-seen.ensures c.history.ensures) c.show_new.ensures.moved (sym c.show_new.ensures.stopped ∙ c.in-Some-show_new.is) (omega arith) c.ended_by.ensures

pub returns-in-Some-show_new-clause-followed : goal.returns-in-Some-show_new-clause-followed
returns-in-Some-show_new-clause-followed g c =
    let w = c.loop-world.world in
    let new = c.take_step.new.world in
    let bs : List (Board g.row.C.Denot) = w.boards.items in
    let x : ℕ = c.loop-world.state in
    let b : ℕ = c.in-Some.b in
    let picked : picked_board (next_number x) (running_boards (are_out bs)) ≡ Some b = (λ k. picked_board (sym c.next-state.ensures k) (running_boards (are_out (sym c.deref.ensures.value k)))) ∙ sym c.pick.ensures ∙ c.in-Some.is in
    let may = may_go_on g.C.Cpu.meaning g.C.Cpu.state g.C.Cpu.room g.B.Backing.meaning (start_of g.C.Cpu.state g.B.Backing.meaning w.beginning) w.store b bs c.loop-world.invariant.good
    (running_picked bs (next_number x) b picked) in
    let before : List Entry = c.args.world.now.store.history.entries in
    let h : List Entry = w.store.history.entries in
    let k : List Entry = new.store.history.entries in
    let first : length c.history-first.result.now ≡ length before = ap length c.history-first.ensures in
    let seen : length c.history-seen.result.now ≡ length h = ap length c.history-seen.ensures in
    let all : length c.history.result.now ≡ length k = ap length c.history.ensures in
    let long : length h ≡ length before + length c.loop-world.invariant.showing.entries = ap length c.loop-world.invariant.showing.history ∙ length-append before c.loop-world.invariant.showing.entries in
    let within = stop_below (length c.history-seen.result.now) c.history.result.now _ c.in-Some-show_new.stop (sym c.show_new.ensures.stopped ∙ c.in-Some-show_new.is) in
    let empty : LogsAreEmpty new.boards.items = emptied_by_stop w new _ _ c.in-Some-show_new.stop c.in_ok-take_step-in-Some.ensures.joined (new_added _ _ _ _ c.history-seen.ensures c.history.ensures)
    (sym c.show_new.ensures.stopped ∙ c.in-Some-show_new.is) in
    let wide : whole new.store new.boards.items ≡ k = whole_empty g.C.Cpu.meaning g.C.Cpu.state g.C.Cpu.room new.store new.boards.items empty in
    let prefix : IsPrefix before k = prefix_then _ _ _ (showing_prefix _ _ _ _ _ c.loop-world.invariant.showing) c.take_step.ensures.prefix in
    scheduled_as g.C.Cpu.meaning g.C.Cpu.state c.args.start _ c.args.late (stopped_entry c.ended_by.result) before (whole new.store new.boards.items) k c.args.world.now.boards.items new.boards.items new.boards.items (sym wide) refl
    (scheduled_stopped g.C.Cpu.meaning g.C.Cpu.state c.args.late c.args.start x b c.args.world.now.beginning.opening.value.options.budget
    ((length c.history-seen.result.now - length c.history-first.result.now) + c.in-Some-show_new.stop.entry + 1) (stopped_entry c.ended_by.result)
    before (whole w.store bs) (whole new.store new.boards.items) c.args.world.now.boards.items bs new.boards.items c.loop-world.invariant.scheduling picked
    c.in_ok-take_step-in-Some.ensures.instruction c.in_ok-take_step-in-Some.ensures.stepped may (subst (IsPrefix before) (sym wide) prefix)
    (λ early.
    let were : length (whole w.store bs) ≡ length h = ap length (whole_empty g.C.Cpu.meaning g.C.Cpu.state g.C.Cpu.room w.store bs (c.loop-world.invariant.empty early)) in
    let are : length (whole new.store new.boards.items) ≡ length k = ap length wide in
    record { low = omega arith; high = omega arith })
    (λ i b e. (c.requires.good.programs.each i b e).budget) (ap stopped_entry c.ended_by.ensures))
