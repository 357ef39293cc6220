-- What showing entries to probes comes to, told without the order in which it is done.
use Rattle.std.specs.Prelude.{ℕ, ◌≡◌, ◌+◌, ◌-◌, List, ◌++◌, drop, take, Some, None}
use Rattle.spur_flat.specs.declared.entry.Entry.{Entry}
use Rattle.spur_probe.specs.declared.show.StopAt.{StopAt}
use Rattle.spur_probe.specs.Shown.{Told, after_all, after_entries, first_stop}

-- where no probe wishes a stop, each was shown all entries
abbrev pub UnstoppedAreShownAll : Type 0
UnstoppedAreShownAll = (n : ℕ) (entries : List Entry) (probes : List Told) → first_stop n entries probes ≡ None
    → after_entries entries probes ≡ after_all entries probes

-- where one does, at an entry by its number from 1, the probes up to that one were shown the entries up to that entry, and
-- the later probes the entries up to the one before
abbrev pub StoppedAreShownUpToIt : Type 0
StoppedAreShownUpToIt = (entries : List Entry) (probes : List Told) (stop : StopAt)
    → first_stop 1 entries probes ≡ Some stop
    → after_entries entries probes ≡ after_all (take stop.entry entries) (take (stop.probe + 1) probes)
    ++ after_all (take (stop.entry - 1) entries) (drop (stop.probe + 1) probes)
