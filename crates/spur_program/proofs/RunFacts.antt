-- What has come of a run, from how its world began, how it was run, and how its caches were written back.
use Rattle.std.proofs.Common.{◌≡◌, ℕ, ◌≤◌, List, [], length, sym, subst}
use Rattle.std.specs.Prelude.{IfNone}
use Rattle.spur_swap.specs.Meaning.{Swap}
use Rattle.spur_bus.specs.Logical.{logical_of}
use Rattle.spur_cache.specs.Lens.{OnlyLines}
use Rattle.spur_cpu.specs.Meaning.{Meaning}
use Rattle.spur_loader.specs.declared.opening.Opening.{Opening}
use Rattle.spur_core.specs.Begin.{AreNewBoards, KeepsBeginning}
use Rattle.spur_core.specs.Boards.{board_lens}
use Rattle.spur_core.specs.Step.{runners_of}
use Rattle.spur_core.specs.World.{start_of}
use Rattle.spur_core.specs.declared.world.World.{World}
use Rattle.spur_probe.specs.Shown.{Told}
use Rattle.spur_words.specs.declared.task.Order.{Order}
use Rattle.spur_program.specs.declared.probes.Seen.{Seen}
use Rattle.spur_program.specs.declared.run.Finished.{Finished}
use Rattle.spur_program.specs.declared.run.Through.{Through}
use Rattle.spur_program.specs.Headline.{AllAreOut}
use Rattle.spur_program.specs.Probes.{stop_number}
use Rattle.spur_program.specs.Runs.{GoesByOrder, HasRun, IsRunThrough, run_of}
use Rattle.spur_program.proofs.EndFacts.{order_followed, run_from_opening, written_back_run}
use Rattle.spur_program.proofs.SeenFacts.{shown_kept}

module _ {C S B : Type 0} (m : Meaning S) (state : C → S) (spare : C → ℕ) (tells : B → Swap) (order : Order) (probes : List Told) where
  -- a world that began with an opening was run, and its caches were written back
  pub has_run : (opening : Opening) (cpus : List C) (before : Swap) (begun : World C B) (through : Through C B) (ran : Finished C B)
      → length cpus ≡ length opening.segs → AreNewBoards opening.segs opening.options.lines opening.options.budget cpus begun.boards.items → KeepsBeginning opening cpus begun.store.backing begun.beginning
      → begun.store.history.entries ≡ [] → before.faults ≤ (tells begun.store.backing).faults → IsRunThrough m state spare tells order probes begun through.world through.seen
      → ran.store.phys ≡ logical_of board_lens through.world.boards.items through.world.store.phys → ran.store ≡ record through.world.store { phys = ran.store.phys }
      → OnlyLines board_lens through.world.boards.items ran.boards.items → ran.seen ≡ through.seen
      → HasRun m state tells order probes opening cpus before ran
  has_run opening cpus before begun through ran count new keeps fresh fewer runs memory store only seen =
      let world = through.world in
      let out = subst (λ (s : Seen). IfNone s.stopped (AllAreOut (runners_of m state world.boards.items))) (sym seen) runs.out in
      let come = written_back_run m state spare tells (start_of state tells world.beginning) world.store world.boards.items runs.good runs.empty ran out memory store only in
      let goes = subst (λ (s : Seen). GoesByOrder m state order (stop_number s.stopped) begun world) (sym seen) runs.went in
      record {
        came = run_from_opening m state tells opening cpus begun.store.backing world.beginning before (run_of m state tells ran)
            (subst (KeepsBeginning opening cpus begun.store.backing) (sym runs.beginning) keeps) fewer come;
        followed = order_followed m state tells order opening cpus before begun world ran goes count new keeps.opening fresh store only;
        shown = shown_kept order probes world.store.history.entries ran.store.history.entries through.seen ran.seen (λ k. (store k).history.entries) seen runs.shown;
      }
