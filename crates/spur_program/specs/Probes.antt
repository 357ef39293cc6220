-- What a run shows to the probes that are handed in, and what its report tells of them.
use Rattle.std.specs.Prelude.{ℕ, ◌≡◌, List, map, Option, Some, None}
use Rattle.spur_flat.specs.declared.entry.Entry.{Entry}
use Rattle.spur_probe.specs.declared.probe.ProbeLine.{ProbeLine}
use Rattle.spur_probe.specs.declared.show.StopAt.{StopAt}
use Rattle.spur_probe.specs.Shown.{Told, after_all, after_entries, first_stop, told_line}
use Rattle.spur_sched.specs.declared.run.Ran.{Ran}
use Rattle.spur_sched.specs.declared.run.Ran.TheVariants.{Done, Stopped}
use Rattle.spur_sched.specs.Shown.{ran_by}
use Rattle.spur_words.specs.declared.task.Order.{Order}
use Rattle.spur_words.specs.declared.task.Order.TheVariants.{Scheduled, Threads}

-- the wish that stops a run: by the schedule the first one at an entry of its history, whose entries are counted from
-- 1; on threads no wish is heeded
abbrev pub heeded_stop : Order → List Entry → List Told → Option StopAt
heeded_stop Threads history probes = None
heeded_stop (Scheduled schedule) history probes = first_stop 1 history probes

-- The probes after a run. By the schedule those up to the one that stopped it were shown the history up to the entry at
-- which it did, and those behind it the history up to the entry before. On threads, and where none stopped the
-- schedule, all were shown the whole history.
abbrev pub probes_after : Order → List Entry → List Told → List Told
probes_after Threads history probes = after_all history probes
probes_after (Scheduled schedule) history probes = after_entries history probes

-- what is told of how a run ended: where a probe stopped it, the entry's number and the probe's
abbrev pub stop_told : Ran → Option (ℕ × ℕ)
stop_told Done = None
stop_told (Stopped entry probe) = Some (entry, probe)

-- the number of the entry at which a run was stopped
abbrev pub stop_number : Option (ℕ × ℕ) → Option ℕ
stop_number None = None
stop_number (Some stop) = Some stop.0

-- What a run in this order told of its history and of these probes: where the first wish that is heeded stopped it, and
-- of each probe the number that is read off its state after all that it was shown.
pub record AreShown (order : Order) (probes : List Told) (history : List Entry) (stopped : Option (ℕ × ℕ))
    (lines : List ProbeLine) : Type 0 where
  pub stop : stopped ≡ stop_told (ran_by (heeded_stop order history probes))
  pub told : lines ≡ map told_line (probes_after order history probes)
