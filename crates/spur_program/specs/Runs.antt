-- What comes of a run, over boards with any kind of processor.
use Rattle.std.specs.Prelude.{◌≡◌, ◌≤◌, ◌<◌, ◌+◌, ◌*◌, ℕ, false, List, [], ◌∷◌, IfNone, IfSome, length, map, Option}
use Rattle.spur_swap.specs.Meaning.{Swap}
use Rattle.spur_flat.specs.declared.entry.Entry.{Entry}
use Rattle.spur_flat.specs.History.{own_entries}
use Rattle.spur_cpu.specs.Meaning.{Meaning}
use Rattle.spur_cpu.specs.After.{begun}
use Rattle.spur_loader.specs.declared.opening.Opening.{Opening}
use Rattle.spur_core.specs.declared.begin.BeginFault.{BeginFault}
use Rattle.spur_core.specs.declared.begin.BeginFault.TheVariants as begin_fault
use Rattle.spur_core.specs.declared.world.World.{World}
use Rattle.spur_core.specs.Boards.{LogsAreEmpty}
use Rattle.spur_core.specs.World.{IsGoodWorld}
use Rattle.spur_probe.specs.Shown.{Told}
use Rattle.spur_core.specs.Start.{Start}
use Rattle.spur_core.specs.Step.{Runner, runners_of}
use Rattle.spur_sched.specs.Followed.{IsFollowed, IsScheduled, StandInOrder}
use Rattle.spur_program.specs.declared.run.Finished.{Finished}
use Rattle.spur_program.specs.declared.run.RunFault.{RunFault}
use Rattle.spur_program.specs.declared.run.RunFault.TheVariants.{SwapAtStart, NoMemory}
use Rattle.spur_words.specs.declared.task.Order.{Order}
use Rattle.spur_words.specs.declared.task.Schedule.{Schedule}
use Rattle.spur_words.specs.declared.task.Order.TheVariants.{Scheduled, Threads}
use Rattle.spur_program.specs.declared.probes.Seen.{Seen}
use Rattle.spur_program.specs.Headline.{AllAreOut, IsRunOf, Run}
use Rattle.spur_program.specs.Probes.{AreShown, stop_number}

-- the beginning of a run of these processors from an opening
abbrev pub start_from : {C S : Type 0} → (C → S) → Opening → List C → Swap → Start S
start_from state opening cpus swap =
    record { flat = opening.flat; segs = opening.segs; options = opening.options; firsts = map state cpus; faults = swap.faults }

-- what boards that have come to their ends, and what they shared, say of a run
abbrev pub run_of : {C B S : Type 0} → Meaning S → (C → S) → (B → Swap) → Finished C B → Run S
run_of m state tells ran = record {
  history = ran.store.history.entries;
  boards = runners_of m state ran.boards.items;
  memory = ran.store.phys;
  swap = (tells ran.store.backing).pages;
  faults = (tells ran.store.backing).faults;
  stop = stop_number ran.seen.stopped;
}

-- the swap failed before the run: its count rose, and no page was read
pub record HasFailedAtStart (before now : Swap) : Type 0 where
  pub rose : before.faults < now.faults
  pub unread : now.reads ≡ before.reads

-- why boards were not run whose world did not begin
abbrev pub run_fault : BeginFault → RunFault
run_fault begin_fault.Swap = SwapAtStart
run_fault begin_fault.NoMemory = NoMemory

-- ---- the order of the steps

-- the boards as a run begins with them: each at the beginning of its program, with these segment registers and this
-- budget
abbrev pub runners_from : {S : Type 0} → ℕ → List (List ℕ) → List S → List (Runner S)
runners_from limit [] firsts = []
runners_from limit (registers ∷ segs) [] = []
runners_from limit (registers ∷ segs) (first ∷ firsts) =
    record { segs = registers; budget = limit; course = begun first; swapped = false } ∷ runners_from limit segs firsts

abbrev pub first_runners : {S : Type 0} → Start S → List (Runner S)
first_runners start = runners_from start.options.budget start.segs start.firsts

-- Boards have followed this schedule, from where they stood to where they stand: each step picks a board by it, which takes
-- one whole instruction, and the steps use up each board's own entries. They end with all boards, unless a probe stopped
-- the run; and there are at most so many steps. Where logs are joined after each step, the entries of the steps stand one
-- behind the other, and a probe stopped the run in the step to which the entry belongs at which it did. Where they are
-- joined late, nothing is said of the order between boards.
pub record IsScheduledRun {S : Type 0} (m : Meaning S) (schedule : Schedule) (most : ℕ) (stop : Option ℕ)
    (olds : List (Runner S)) (entries : List Entry) (news : List (Runner S)) : Type 0 where
  pub followed : IsFollowed m schedule.start stop olds (own_entries entries) news
  pub in_order : schedule.late ≡ false → StandInOrder stop entries followed.picks
  pub few : length followed.picks ≤ most

-- the order of a run: of threads none is said, and by a schedule the boards follow it
abbrev pub FollowsOrder : {S : Type 0} → Meaning S → Order → Start S → Run S → Type 0
FollowsOrder m Threads start run = Unit {0}
FollowsOrder m (Scheduled schedule) start run =
    IsScheduledRun m schedule (length start.segs * (start.options.budget + 1)) run.stop
    (first_runners start) run.history run.boards

-- the same of a world that was run, by what is told of a stop
abbrev pub GoesByOrder : {C B S : Type 0} → Meaning S → (C → S) → Order → Option ℕ → World C B → World C B → Type 0
GoesByOrder m state Threads stop old new = Unit {0}
GoesByOrder m state (Scheduled schedule) stop old new =
    IsScheduled m state schedule.start schedule.late
    (length old.boards.items * (old.beginning.opening.value.options.budget + 1)) stop
    old.store.history.entries new.store.history.entries old.boards.items new.boards.items

-- ---- a run

-- A world was run in this order: it is good, with empty logs and the beginning that it had, all boards have ended where
-- no probe stopped the run, and the probes were shown its history.
pub record IsRunThrough {C B S : Type 0} (m : Meaning S) (state : C → S) (spare : C → ℕ) (tells : B → Swap)
    (order : Order) (probes : List Told) (old new : World C B) (seen : Seen) : Type 0 where
  pub good : IsGoodWorld m state spare tells new
  pub empty : LogsAreEmpty new.boards.items
  pub beginning : new.beginning ≡ old.beginning
  pub out : IfNone seen.stopped (AllAreOut (runners_of m state new.boards.items))
  pub went : GoesByOrder m state order (stop_number seen.stopped) old new
  pub shown : AreShown order probes new.store.history.entries seen.stopped seen.lines.items

-- What has come of a run of these processors from an opening, in this order.
pub record HasRun {C B S : Type 0} (m : Meaning S) (state : C → S) (tells : B → Swap) (order : Order)
    (probes : List Told) (opening : Opening) (cpus : List C) (before : Swap) (ran : Finished C B) : Type 0 where
  pub came : IsRunOf m (start_from state opening cpus before) (run_of m state tells ran)
  pub followed : FollowsOrder m order (start_from state opening cpus before) (run_of m state tells ran)
  pub shown : AreShown order probes ran.store.history.entries ran.seen.stopped ran.seen.lines.items
