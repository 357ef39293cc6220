-- What a run shows to probes, and how it comes to its end by that.
use Rattle.std.specs.Prelude.{ℕ, ◌≡◌, ◌+◌, ◌-◌, ◌^◌, min, List, drop, length, map, None, Option, Some}
use Rattle.spur_flat.specs.declared.entry.Entry.{Entry}
use Rattle.spur_probe.specs.declared.show.StopAt.{StopAt}
use Rattle.spur_probe.specs.Shown.{Told, after_entries, first_stop}
use Rattle.spur_sched.specs.declared.run.Ran.{Ran}
use Rattle.spur_sched.specs.declared.run.Ran.TheVariants.{Done, Stopped}
use Rattle.spur_core.specs.World.{IsPrefix}

-- the entries that were added to a history
abbrev pub added : List Entry → List Entry → List Entry
added before after = drop (length before) after

-- how a run ends by the first wish to stop: where there is none, with all boards. A probe's place that does not fit is
-- told as the greatest number that does.
abbrev pub ran_by : Option StopAt → Ran
ran_by None = Done
ran_by (Some stop) = Stopped stop.entry (min stop.probe (2 ^ 32 - 1))

-- a stop among entries, as it is numbered from 1 where so many stand before these
abbrev pub numbered_behind : ℕ → Option StopAt → Option StopAt
numbered_behind shown None = None
numbered_behind shown (Some stop) = Some (record { entry = shown + stop.entry + 1; probe = stop.probe })

-- the number of the entry at which a run was stopped
abbrev pub stopped_entry : Ran → Option ℕ
stopped_entry Done = None
stopped_entry (Stopped entry probe) = Some entry

-- The entries that a run adds are shown to the probes, up to the first wish to stop, and that wish, or that there is
-- none, is the run's answer. Entries are numbered from 1. What is known of a probe is what `tell` says of it.
pub record IsShown {A : Type 0} (tell : A → Told) (entries : List Entry) (olds news : List A) (ran : Ran)
    : Type 0 where
  pub moved : map tell news ≡ after_entries entries (map tell olds)
  pub answer : ran ≡ ran_by (first_stop 1 entries (map tell olds))

-- Some of the entries that a run added were shown, from the first on, and no probe wished a stop at one of these.
pub record IsShownInPart {A : Type 0} (tell : A → Told) (entries : List Entry) (olds news : List A) : Type 0 where
  pub shown : List Entry
  pub first : IsPrefix shown entries
  pub moved : map tell news ≡ after_entries shown (map tell olds)
  pub unstopped : first_stop 1 shown (map tell olds) ≡ None
